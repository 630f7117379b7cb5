-- `short_value` meets its contract: behind a byte that begins a value, a body of the length that is known is the value's if it fits; nothing else is a value
-- without a wrapper and with a short length field.
use Prim.Native.Nat.{ℕ, ◌≤◌, ◌<◌}
use native.Mathlib.Omega.{arith}
use borrow.Author.Tests.{le-ltb, lt-ltb, le-leb, eq-eqb}
use mathlib.Core.Path.{◌≡◌, refl, ◌∙◌, sym, ap, subst}
use mathlib.Core.Logic.{⊎_elim}
use lib.ListN.{length}
use Rattle.std.specs.Prelude.{Option}
use Rattle.framing.specs.Answers.{fitting, value_without_annotations, read_value}
use Rattle.framing.specs.ShortValue.{short_value_of}
use Rattle.framing.specs.Private.ShortLength.{ShortLengthAt}
use Rattle.framing.specs.declared.encoded_value.Length.{Length}
use Rattle.framing.proofs.Soundness.{here}
use Rattle.framing.proofs.ShortValues.{never_said, none_left, plain_said, unbegun_plain}
use Rattle.framing.proofs.binary_buffer.short_value.Goals as goal
use Rattle.framing.proofs.binary_buffer.short_value.Goals.{After-short_length, Else-end-at}

-- past the first tests the descriptor is one of the part
in_part : (q : Else-end-at) → let a = q.args in (a.at < a.end) × (a.end ≤ length a.s.now)
in_part q = (omega arith, omega arith)

-- and only a value without a wrapper is said
alone : (limit : ℕ) (q : Else-end-at) → let a = q.args in short_value_of a.at (read_value limit a.s.now a.at a.end) ≡ short_value_of a.at (value_without_annotations a.s.now a.at a.end (here a.s.now a.at))
alone limit q = let a = q.args in plain_said limit a.s.now a.at a.end (in_part q).0 (in_part q).1

-- what is told of its length
told : (q : After-short_length) {l : Option Length} → q.short_length.result ≡ l → let a = q.args in ShortLengthAt a.s.now a.at a.end l
told q e =
    let a = q.args in
    subst (ShortLengthAt a.s.now a.at a.end) e q.short_length.ensures

pub returns-then-s-end : goal.returns-then-s-end
returns-then-s-end c limit =
    let a = c.args in sym (none_left limit a.s.now a.at a.end (λ h k. ⊎_elim (λ e. omega arith) (λ e. omega arith) c.then-s-end.either))

pub returns-then-not-begins_value : goal.returns-then-not-begins_value
returns-then-not-begins_value c limit =
    let a = c.args in
    let n = sym c.begins_value.ensures ∙ c.if-not-begins_value.true in
    sym (alone limit (goal.at.returns-then-not-begins_value c).Else-end-at ∙ never_said a.at (unbegun_plain a.s.now a.at a.end (in_part (goal.at.returns-then-not-begins_value c).Else-end-at).0 n))

pub short_length-requires : goal.short_length-requires
short_length-requires c = in_part (goal.at.short_length-requires c).Else-end-at

pub returns-in_err-size : goal.returns-in_err-size
returns-in_err-size c limit =
    rw c.from_residual.ensures
    (sym (alone limit (goal.at.returns-in_err-size c).Else-end-at ∙ told (goal.at.returns-in_err-size c).After-short_length c.in_err-size.was))

pub returns-then-end-size : goal.returns-then-end-size
unfolding fitting
returns-then-end-size c limit =
    let a = c.args in
    let k = told (goal.at.returns-then-end-size c).After-short_length c.in_ok-size.was in
    sym (alone limit (goal.at.returns-then-end-size c).Else-end-at ∙ ap (short_value_of a.at) k.reads ∙ rw (lt-ltb _ _ c.if-end-size.true))

pub returns : goal.returns
unfolding fitting
returns c limit =
    let a = c.args in
    let k = told (goal.at.returns c).After-short_length c.in_ok-size.was in
    sym (alone limit (goal.at.returns c).Else-end-at ∙ ap (short_value_of a.at) k.reads ∙ rw (le-ltb _ _ c.if-end-size.false, eq-eqb a.at a.at refl, le-leb _ _ k.near))
