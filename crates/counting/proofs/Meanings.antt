-- The IDs that a step begins to read, by the bytes: one where each pad that it passes starts, and one behind them before the part's end.
-- Assumes nothing.
use Prim.Native.Nat.{ℕ, ◌+◌, ◌-◌, ◌≤◌}
use native.Mathlib.Omega.{arith}
use borrow.Author.Tests.{lt-ltb, le-ltb}
use mathlib.Core.Path.{◌≡◌, ◌∙◌, sym, ap, subst}
use mathlib.Core.Logic.{inl, inr}
use mathlib.Core.List.{List}
use lib.ListN.{length}
use lib.Dec.{ltb}
use Rattle.numbers.specs.Outcome.{gives, pick}
use Rattle.numbers.proofs.Outcomes.{by_case, inside_order, inside_end}
use Rattle.framing.specs.Limits.{out_of_range}
use Rattle.stepping.specs.Answers.{Found, found}
use Rattle.stepping.specs.Meaning.{Skips, arrived, passed}
use Rattle.stepping.specs.declared.cursor.Rules.TheVariants.{Fields}
use Rattle.stepping.proofs.PadSkipping.{Skipping, at-end, at_pad, at_item, at_refusal, skipping, of_skipping}
use Rattle.stepping.proofs.Spans.{pad-at}
use Rattle.counting.specs.Counted.{Counted, one_more}
use Rattle.counting.specs.Meaning.{IdsSound, NoIdsUnread}
use Rattle.counting.proofs.Counting.{begun, counted_unranged, counted_outside, counted-inside}

-- the pads lead from `at` to z, and one more ID is begun there, unless it is the part's end
abbrev Placed : List ℕ → ℕ → ℕ → Found → Type 0
Placed s at hi f = (z : ℕ) × Skips Fields s hi at f.pads z × (one_more f.answer ≡ pick (ltb z hi) 1 0)

placed : (limit : ℕ) (s : List ℕ) (hi : ℕ) {at : ℕ} {f : Found} → hi ≤ length s → Skipping limit Fields s hi at f → Placed s at hi f
placed limit s hi m at-end = (hi, arrived, rw (le-ltb hi hi (omega arith)))
placed limit s hi m (at_pad l h d) =
    let p = pad-at limit Fields s l m h in
    let r = placed limit s hi m d in
    (r.0, passed p.0 p.1 r.1, r.2)
placed limit s hi m (at_item {at} {i} l h) = (at, arrived, begun limit Fields s at hi (gives i) (sym h) ∙ sym (rw (lt-ltb at hi l)))
placed limit s hi m (at_refusal {at} l h) = (at, arrived, sym (rw (lt-ltb at hi l)))

pub ids-sound : IdsSound
ids-sound limit s c g o =
    let l = inside_order s c.at c.end o in
    let m = inside_end s c.at c.end o in
    let w = skipping limit Fields s c.end (c.end - c.at) c.at l (omega arith) in
    let r = subst (Placed s c.at c.end) (of_skipping limit Fields s c.end g l m w) (placed limit s c.end m w) in (
      r.0,
      r.1,
      ap (λ (x : Counted). x.names) (counted-inside limit Fields s g c.at c.end l m)
          ∙ ap (λ (n : ℕ). length (found limit Fields s c).pads + n) r.2,
    )

pub no-ids-unread : NoIdsUnread
no-ids-unread limit s c (inl g) = ap (λ (x : Counted). x.names) (counted_unranged limit Fields s c g)
no-ids-unread limit s c (inr o) =
    by_case (out_of_range limit)
    (λ g. ap (λ (x : Counted). x.names) (counted_unranged limit Fields s c g))
    (λ g. ap (λ (x : Counted). x.names) (counted_outside limit Fields s c g o))
