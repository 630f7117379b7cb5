-- What a call of `pack` answers and leaves, by what it finds: the size, the room, and the packed map stored from the buffer's start.
-- Assumes nothing.
use Prim.Native.Nat.{ℕ, ◌+◌, ◌≤◌, ◌<◌}
use native.Mathlib.Omega.{arith}
use mathlib.Core.Path.{◌≡◌, ◌∙◌, sym, ap}
use mathlib.Core.List.{List, ◌++◌}
use lib.ListN.{length, drop}
use Rattle.std.specs.Prelude.{Ok, Err}
use lib.Seq.{sets, sets-eq}
use borrow.Author.Tests.{lt-ltb, le-ltb}
use Rattle.numbers.specs.Outcome.{Outcome, gives, and_then}
use Rattle.numbers.proofs.Outcomes.{then_gives}
use Rattle.numbers.specs.Read.{refusal_read}
use Rattle.numbers.specs.declared.refusal.Refusal.{Refusal}
use Rattle.numbers.specs.declared.refusal.Reason.TheVariants.{NoRoomToPack}
use Rattle.checking.specs.Check.{whole_check}
use Rattle.checking.specs.Answers.{Answer, check_of}
use Rattle.checking.specs.Read.{checked_read}
use Rattle.checking.specs.declared.counts.Counts.{Counts}
use Rattle.packing.specs.Packed.{packed}
use Rattle.packing.specs.Answers.{sized, size_of, fitted, pack_of, leaving, buffer_of}

module _ (limit deepest : ℕ) (s : List ℕ) where
  -- the size of a map that is accepted, and of one that is not
  pub size_accepted : (c : Counts) (n : ℕ) → checked_read (Ok c) ≡ check_of limit deepest s → n ≡ length (packed limit s) → gives n ≡ size_of limit deepest s
  unfolding size_of
  size_accepted c n e h = ap gives h ∙ ap (λ (a : Answer). and_then a.outcome (sized limit s)) e

  pub size_refused : (e : Refusal) → checked_read (Err e) ≡ check_of limit deepest s → refusal_read e ≡ size_of limit deepest s
  unfolding size_of
  size_refused r e = ap (λ (a : Answer). and_then a.outcome (sized limit s)) e

  -- a size that is given is the packed map's
  pub size_is : (n : ℕ) → gives n ≡ size_of limit deepest s → n ≡ length (packed limit s)
  unfolding size_of
  size_is n e =
      let t = then_gives (whole_check limit deepest s) (sized limit s) (sym e) in
      let q : sized limit s t.0 ≡ gives n = t.2 in
      cc

  -- what `pack` answers and leaves, by what it finds
  pub not_packed : (e : Refusal) (room : ℕ) → refusal_read e ≡ size_of limit deepest s → refusal_read e ≡ pack_of limit deepest s room
  unfolding pack_of
  not_packed e room h = ap (λ (o : Outcome ℕ). and_then o (fitted room)) h

  pub no_room : (n room : ℕ) → gives n ≡ size_of limit deepest s → room < n → refusal_read (record { reason = NoRoomToPack; position = n }) ≡ pack_of limit deepest s room
  unfolding pack_of
  no_room n room e h = sym (ap (λ (o : Outcome ℕ). and_then o (fitted room)) (sym e) ∙ rw (lt-ltb room n h))

  pub has_room : (n room : ℕ) → gives n ≡ size_of limit deepest s → n ≤ room → gives n ≡ pack_of limit deepest s room
  unfolding pack_of
  has_room n room e h = sym (ap (λ (o : Outcome ℕ). and_then o (fitted room)) (sym e) ∙ rw (le-ltb room n h))

  pub left_alone : (e : Refusal) (old : List ℕ) → refusal_read e ≡ pack_of limit deepest s (length old) → old ≡ buffer_of limit deepest s old
  unfolding buffer_of
  left_alone e old h = ap (leaving (packed limit s) old) h

  pub left_not_packed : (e : Refusal) (old : List ℕ) → refusal_read e ≡ size_of limit deepest s → old ≡ buffer_of limit deepest s old
  left_not_packed e old h = left_alone e old (not_packed e (length old) h)

  pub left_no_room : (n : ℕ) (old : List ℕ) → gives n ≡ size_of limit deepest s → length old < n → old ≡ buffer_of limit deepest s old
  left_no_room n old e h = left_alone (record { reason = NoRoomToPack; position = n }) old (no_room n (length old) e h)

  pub filled : (n : ℕ) (old bytes : List ℕ) → gives n ≡ size_of limit deepest s → n ≤ length old → bytes ≡ packed limit s → sets old 0 bytes ≡ buffer_of limit deepest s old
  unfolding buffer_of
  filled n old bytes e h p =
      let l : n ≡ length (packed limit s) = size_is n e in
      ap (sets old 0) p
      ∙ sets-eq (packed limit s) old 0 (omega arith)
      ∙ ap (λ (x : ℕ). packed limit s ++ drop x old) (let z : 0 + length (packed limit s) ≡ n = omega arith in z)
      ∙ ap (leaving (packed limit s) old) (has_room n (length old) e h)
