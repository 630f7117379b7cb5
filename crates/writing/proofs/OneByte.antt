-- A struct's body of one byte is refused: a field ID with nothing after it, or one without a last byte.
-- Assumes nothing.
use Prim.Native.Nat.{ℕ}
use native.Mathlib.Omega.{arith}
use borrow.Author.Tests.{eq-eqb}
use mathlib.Core.Path.{◌≡◌, refl, ◌∙◌, sym}
use mathlib.Core.List.{List}
use lib.ListN.{length}
use Rattle.numbers.specs.Outcome.{Outcome, gives, refuses, and_then}
use Rattle.numbers.specs.Answers.{Unsigned, var_uint}
use Rattle.numbers.proofs.Outcomes.{by_case, inside, Each, given, refused}
use Rattle.numbers.proofs.Meaning.{Bounded, var_uint_bounded}
use Rattle.framing.specs.Limits.{out_of_range}
use Rattle.stepping.specs.Answers.{named_at, field_at, tile_at, skip_pads, found}
use Rattle.stepping.specs.Runs.{cursor}
use Rattle.stepping.specs.declared.cursor.Rules.TheVariants.{Fields}
use Rattle.checking.specs.Reading.{done}
use Rattle.checking.specs.Check.{part_check}
use Rattle.checking.specs.Body.{body_check}
use Rattle.writing.specs.Answers.{body_room, judged_container}

-- an outcome that is a refusal
record Refuses {A : Type 0} (o : Outcome A) : Type 0 where
  number : ℕ
  position : ℕ
  is : o ≡ refuses number position

module _ (limit : ℕ) (s : List ℕ) (one : length s ≡ 1) where
  tile_refused : Refuses (tile_at limit Fields s 0 1)
  unfolding tile_at field_at named_at
  tile_refused = go (var_uint s 0 1) (var_uint_bounded s 0 1)
    where
      go : (o : Outcome Unsigned) → Each (Bounded 0 1) o → Refuses (and_then o (named_at limit s 0 1))
      go (gives u) (given b) = record { number = 7; position = 1; is = rw (eq-eqb u.next 1 (omega (arith, b.begins, b.ends))) }
      go (refuses k p) refused = record { number = k; position = p; is = refl }

  found_refused : Refuses (found limit Fields s (cursor 0 1)).answer
  unfolding found skip_pads
  found_refused =
      by_case (out_of_range limit) (λ g. record { number = 68; position = 0; is = rw g }) (λ g.
      let t = tile_refused in
      record { number = t.number; position = t.position; is = rw (g, inside s 0 1 (omega arith) (omega arith), t.is) })

  body_refused : (room : ℕ) → Refuses (body_check limit room Fields s)
  unfolding body_check part_check
  body_refused room =
      let f = found_refused in
      record { number = f.number; position = f.position; is = rw (one, f.is) }

pub one_byte_struct : (limit deepest type : ℕ) (body : List ℕ) → type ≡ 13 → length body ≡ 1 → judged_container limit deepest type body ≡ gives done → ⊥
unfolding judged_container
one_byte_struct limit deepest type body e n h =
    let r = body_refused limit body n (body_room deepest) in
    let q : gives done ≡ refuses r.number r.position = sym h ∙ (rw (e, r.is)) in
    let z : ◌≡◌ {A = ℕ} 0 1 = cc in
    omega arith
