-- A value that is written is framed as it was written, wherever it stands.
-- Assumes nothing.
use Prim.Native.Nat.{ℕ, ◌+◌, ◌≤◌}
use native.Mathlib.Omega.{arith}
use borrow.Author.Tests.{ltb-true, ltb-false, eq-eqb, not-false}
use mathlib.Core.Path.{◌≡◌, refl, ◌∙◌, sym, subst}
use mathlib.Core.Bool.{Bool, true, false, not, true≢false}
use mathlib.Core.Logic.{◌⊎◌, inl, inr}
use mathlib.Core.List.{List, ◌++◌}
use lib.ListN.{length}
use lib.Dec.{ltb, eqb}
use Rattle.numbers.specs.Outcome.{gives}
use Rattle.numbers.specs.Bytes.{part}
use Rattle.numbers.proofs.Outcomes.{by_test, by_case, refuse_gives}
use Rattle.framing.specs.Answers.{short_timestamp}
use Rattle.framing.specs.Format.{plain}
use Rattle.framing.proofs.Completeness.{values-complete}
use Rattle.checking.specs.Reading.{done}
use Rattle.encoding.specs.Fields.{big_endian}
use Rattle.encoding.specs.Heads.{head_bytes, typed_bytes, typed_spans}
use Rattle.encoding.specs.Meaning.{StandsAt, Writable}
use Rattle.encoding.proofs.VarUInts.{uint_written}
use Rattle.encoding.proofs.Heads.{head_length, typed-back}
use Rattle.encoding.proofs.Standing.{stands_rest}
use Rattle.writing.specs.Things.{Thing, int_type, significant, float_body, symbol_body, written}
use Rattle.writing.specs.Answers.{has_body, judged_scalar}
use Rattle.writing.specs.Theorems.{Sound, Bodied, an_int, a_float, a_symbol, a_scalar, a_container, ValuesBack}
use Rattle.writing.proofs.Lengths.{not_past}
use Rattle.writing.proofs.Stages.{significant_short, Contains, contains}
use Rattle.writing.proofs.OneByte.{one_byte_struct}

-- ---- what a representation can be

pub float_size : (bits : ℕ) → (length (float_body bits) ≡ 0) ⊎ (length (float_body bits) ≡ 4) ⊎ (length (float_body bits) ≡ 8)
unfolding float_body
float_size bits =
    by_test (λ (l : List ℕ). (length l ≡ 0) ⊎ (length l ≡ 4) ⊎ (length l ≡ 8)) (eqb bits 0) (λ _. inl refl) (λ _. inr (inr (uint_written 8 bits).size))

pub float_few : (bits : ℕ) → length (float_body bits) ≤ 8
unfolding float_body
float_few bits = by_test (λ (l : List ℕ). length l ≤ 8) (eqb bits 0) (λ _. omega arith) (λ _. omega (arith, (uint_written 8 bits).size))

pub symbol_few : (id : ℕ) → length (symbol_body id) ≤ 8
unfolding symbol_body
symbol_few id = omega (arith, significant_short (big_endian 8 id), (uint_written 8 id).size)

-- a type that is given as a body
record HasBody (type : ℕ) : Type 0 where
  low : 5 ≤ type
  high : type ≤ 10

has_body_lem : (type : ℕ) → not (has_body type) ≡ false → HasBody type
unfolding has_body
has_body_lem type =
    by_test (λ (b : Bool). not b ≡ false → HasBody type) (ltb type 5) (λ _ h. absurd (true≢false h)) (λ a.
    by_test (λ (b : Bool). not b ≡ false → HasBody type) (eqb type 7) (λ _ h. absurd (true≢false h)) (λ _ h.
    record { low = ltb-false type 5 a; high = omega (arith, ltb-true type 11 (not-false (ltb type 11) h)) }))

-- a timestamp that the reader does not refuse has two bytes
stamp_long : (type : ℕ) (body : List ℕ) → judged_scalar type body ≡ gives done → type ≡ 6 → 2 ≤ length body
unfolding judged_scalar short_timestamp
stamp_long type body h e =
    by_case (ltb (length body) 2)
    (λ q. absurd (true≢false (let r : short_timestamp type 0 (length body) ≡ true = rw (eq-eqb type 6 e, q) in sym r ∙ (refuse_gives (short_timestamp type 0 (length body)) 31 0 h).0)))
    (λ q. ltb-false (length body) 2 q)

pub sign_low : (b : Bool) → 2 ≤ int_type b
sign_low true = omega arith
sign_low false = omega arith

pub sign_high : (b : Bool) → int_type b ≤ 3
sign_high true = omega arith
sign_high false = omega arith

writable : (limit deepest : ℕ) {thing : Thing} {type : ℕ} {body : List ℕ} → Bodied thing type body → Sound limit deepest thing → Writable type (length body)
writable limit deepest (an_int {negative = b} {magnitude = m}) h =
    record {
      low = sign_low b;
      high = omega (arith, sign_high b);
      float = λ e. absurd (omega (arith, sign_high b));
      timestamp = λ e. absurd (omega (arith, sign_high b));
      struct = λ e _. absurd (omega (arith, sign_high b));
      small = not_past (length (significant m)) h.short;
    }
writable limit deepest (a_float {bits = bits}) h =
    record {
      low = omega arith;
      high = omega arith;
      float = λ _. float_size bits;
      timestamp = λ e. absurd (omega arith);
      struct = λ e _. absurd (omega arith);
      small = omega (arith, float_few bits);
    }
writable limit deepest (a_symbol {id = id}) h =
    record {
      low = omega arith;
      high = omega arith;
      float = λ e. absurd (omega arith);
      timestamp = λ e. absurd (omega arith);
      struct = λ e _. absurd (omega arith);
      small = omega (arith, symbol_few id);
    }
writable limit deepest (a_scalar {type = type} {body = body}) h =
    let t : HasBody type = has_body_lem type h.inside in
    record {
      low = omega (arith, t.low);
      high = omega (arith, t.high);
      float = λ e. absurd (omega (arith, t.low));
      timestamp = λ e. stamp_long type body h.unrefused e;
      struct = λ e _. absurd (omega (arith, t.high));
      small = not_past (length body) h.short;
    }
writable limit deepest (a_container {type = type} {body = body}) h =
    let t : Contains type = contains type h.inside in
    record {
      low = omega (arith, t.low);
      high = t.high;
      float = λ e. absurd (omega (arith, t.low));
      timestamp = λ e. absurd (omega (arith, t.low));
      struct = λ e n. one_byte_struct limit deepest type body e n h.unrefused;
      small = not_past (length body) h.short;
    }

bodied_written : {thing : Thing} {type : ℕ} {body : List ℕ} → Bodied thing type body → written thing ≡ typed_bytes type body
bodied_written an_int = refl
bodied_written a_float = refl
bodied_written a_symbol = refl
bodied_written a_scalar = refl
bodied_written a_container = refl

pub values-back : ValuesBack
unfolding typed_bytes
values-back limit deepest thing type body k h s at end b =
    let n : ℕ = length body in
    let c : StandsAt s at end (head_bytes type n ++ body) = subst (StandsAt s at end) (bodied_written k) b in
    let t = typed-back s at end type body (writable limit deepest k h) c in
    record {
      framed = (values-complete limit s at end (typed_spans type at n) (plain t.0) (omega (arith, t.1))).0;
      bytes = subst (λ (x : ℕ). part s (at + x) (at + x + n) ≡ body) (head_length type n) (stands_rest (head_bytes type n) body c).same;
    }
