-- Nulls and bools that are written are framed as one byte, wherever they stand.
-- Assumes nothing.
use Prim.Native.Nat.{ℕ, ◌+◌, ◌-◌, ◌*◌, ◌/◌, ◌%◌, ◌≤◌, ◌<◌}
use native.Mathlib.Omega.{arith}
use borrow.Author.Tests.{ltb-true, ltb-false, eqb-true, eqb-false}
use mathlib.Core.Path.{◌≡◌, refl, sym, subst}
use mathlib.Core.Bool.{Bool, true, false}
use mathlib.Core.Logic.{inr}
use mathlib.Core.List.{List, [], ◌∷◌}
use lib.ListN.{get_or}
use lib.Dec.{ltb, eqb}
use Rattle.numbers.specs.Outcome.{pick, gives}
use Rattle.numbers.proofs.Outcomes.{by_test, by_case}
use Rattle.framing.specs.Answers.{read_value, read_frame, valued}
use Rattle.framing.specs.Format.{ValueType, typed, null_null, ValueLength, none, null, Legal, plain}
use Rattle.framing.specs.ShortValue.{bare_spans}
use Rattle.framing.proofs.Completeness.{values-complete}
use Rattle.encoding.specs.Meaning.{StandsAt}
use Rattle.encoding.proofs.Standing.{stands_byte}
use Rattle.writing.specs.Things.{null_byte, bool_byte}
use Rattle.writing.specs.Theorems.{NullsBack, BoolsBack}

-- a byte that is a value by itself
record Alone (byte : ℕ) : Type 0 where
  type : ValueType (byte / 16) (byte % 16)
  field : (s : List ℕ) (at end : ℕ) → ValueLength s at end at (byte / 16) (byte % 16) 0
  legal : Legal (byte / 16) (byte % 16) 0

alone_back : (limit : ℕ) (s : List ℕ) (at end byte : ℕ) → Alone byte → StandsAt s at end (byte ∷ []) → (read_value limit s at end ≡ gives (bare_spans byte at (at + 1) (at + 1))) × (read_frame limit s at end ≡ gives (valued (bare_spans byte at (at + 1) (at + 1))))
alone_back limit s at end byte a b =
    let e : get_or s at 0 ≡ byte = stands_byte byte [] b in
    let m : at + 1 - (at + 1) ≡ 0 = omega arith in
    values-complete limit s at end (bare_spans byte at (at + 1) (at + 1))
    (plain
    (record {
      type = rw e a.type;
      field = rw (e, m) (a.field s (at + 1) end);
      legal = rw (e, m) a.legal;
      byte = sym e;
      start = refl;
      annotations = refl;
      descriptor = refl;
      low = omega arith;
      order = omega arith;
      fits = omega (arith, b.fits);
      within = b.within;
    }))
    (omega arith)

-- a null of the type code t
null_alone : (t : ℕ) → t ≤ 13 → Alone (t * 16 + 15)
null_alone t h =
    let x : (t * 16 + 15) / 16 ≡ t = omega arith in
    let y : (t * 16 + 15) % 16 ≡ 15 = omega arith in
    record {
      type = rw (x, y) (by_case (eqb t 0) (λ e. subst (λ (k : ℕ). ValueType k 15) (sym (eqb-true t 0 e)) null_null) (λ e. typed (omega (arith, eqb-false t 0 e)) h));
      field = λ s at end. rw (x, y) (by_case (ltb t 2) (λ e. none (ltb-true t 2 e) refl) (λ e. null (ltb-false t 2 e) refl));
      legal = rw (x, y) (record { float = λ _. inr (inr (inr refl)); timestamp = λ _ l. absurd (omega arith); ordered = λ _ l. absurd (omega arith) });
    }

null_low : (type : ℕ) → type ≤ 13 → pick (eqb type 3) 2 type ≤ 13
null_low type h = by_test (λ (k : ℕ). k ≤ 13) (eqb type 3) (λ _. omega arith) (λ _. h)

-- as a value and as what a step frames
pub null_framed : (limit type : ℕ) → type ≤ 13 → (s : List ℕ) (at end : ℕ) → StandsAt s at end (null_byte type ∷ []) → (read_value limit s at end ≡ gives (bare_spans (null_byte type) at (at + 1) (at + 1))) × (read_frame limit s at end ≡ gives (valued (bare_spans (null_byte type) at (at + 1) (at + 1))))
unfolding null_byte
null_framed limit type h s at end b = alone_back limit s at end (pick (eqb type 3) 2 type * 16 + 15) (null_alone (pick (eqb type 3) 2 type) (null_low type h)) b

pub nulls-back : NullsBack
nulls-back limit type h s at end b = (null_framed limit type h s at end b).0

bool_alone : (code : ℕ) → code < 2 → Alone (16 + code)
bool_alone code h =
    let x : (16 + code) / 16 ≡ 1 = omega arith in
    let y : (16 + code) % 16 ≡ code = omega arith in
    record {
      type = rw (x, y) (typed {type = 1} (omega arith) (omega arith));
      field = λ s at end. rw (x, y) (none {type = 1} (omega arith) refl);
      legal = rw (x, y) (record { float = λ e. absurd (omega arith); timestamp = λ e _. absurd (omega arith); ordered = λ e _. absurd (omega arith) });
    }

pub bool_framed : (limit : ℕ) (value : Bool) (s : List ℕ) (at end : ℕ) → StandsAt s at end (bool_byte value ∷ []) → (read_value limit s at end ≡ gives (bare_spans (bool_byte value) at (at + 1) (at + 1))) × (read_frame limit s at end ≡ gives (valued (bare_spans (bool_byte value) at (at + 1) (at + 1))))
unfolding bool_byte
bool_framed limit true s at end b = alone_back limit s at end 17 (bool_alone 1 (omega arith)) b
bool_framed limit false s at end b = alone_back limit s at end 16 (bool_alone 0 (omega arith)) b

pub bools-back : BoolsBack
bools-back limit value s at end b = (bool_framed limit value s at end b).0
