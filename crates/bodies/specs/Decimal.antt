-- A decimal's body: the Ion document's "5: decimal", what splitting it answers by paper 02's A.1, and what the answers say of the bytes, in both directions.
-- The theorems are proved in proofs/Splitting.antt.
-- Assumes nothing.
use Rattle.std.specs.Prelude.{ℕ, ◌+◌, ◌-◌, ◌^◌, ◌≤◌, ◌<◌, ◌≡◌, ◌⊎◌, Bool, true, false, List, [], Result, ℤ, pos, neg_ℤ, length, get_or, eqb}
use Rattle.numbers.specs.Format.{NumberAt, var_int_negative, var_int_magnitude}
use Rattle.numbers.specs.Outcome.{Outcome, gives, refuses, pick, and_then, within}
use Rattle.numbers.specs.Bytes.{part, Same}
use Rattle.numbers.specs.Answers.{Signed, Fixed, var_int, int}
use Rattle.numbers.specs.Meaning.{IntMeaning}
use Rattle.numbers.specs.Read.{outcome}
use Rattle.numbers.specs.declared.refusal.Refusal.{Refusal}
use Rattle.bodies.specs.declared.decimal.Decimal.{Decimal}

-- "Answer the exponent, negative zero as 0, and the coefficient as an Int's answer": the exponent's sign and magnitude, and the coefficient.
pub record Split : Type 0 where
  pub exponent_negative : Bool
  pub exponent : ℕ
  pub coefficient : Fixed

-- "negative zero as 0"
abbrev pub exponent_sign : Bool → ℕ → Bool
exponent_sign negative magnitude = pick (eqb magnitude 0) false negative

unfoldable pub split_as : Signed → Fixed → Outcome Split
split_as e c =
    gives (record { exponent_negative = exponent_sign e.negative e.magnitude; exponent = e.magnitude; coefficient = c })

-- The coefficient is an Int of the bytes that the exponent leaves; "a negative zero coefficient keeps its sign".
unfoldable pub with_coefficient : List ℕ → ℕ → Signed → Outcome Split
with_coefficient s end e = and_then (int s e.next end (end - e.next)) (split_as e)

-- "An empty body is zero with exponent 0": there its coefficient is an Int of length 0.
abbrev pub zero_at : ℕ → Split
zero_at end =
    record { exponent_negative = false; exponent = 0; coefficient = record { negative = false; first = 0; rest = end; end = end } }

-- 50 first; of the exponent 4 at the body's end and 20 at its start, as of every VarInt
unfoldable pub decimal : List ℕ → ℕ → ℕ → Outcome Split
decimal s start end =
    within s start end (pick (eqb start end) (gives (zero_at end)) (and_then (var_int s start end) (with_coefficient s end)))

-- the coefficient's bytes after its first one, and none where the reading refuses
abbrev pub rest_in : List ℕ → Outcome Split → List ℕ
rest_in s (gives d) = part s d.coefficient.rest d.coefficient.end
rest_in s (refuses number position) = []

unfoldable pub decimal_rest : List ℕ → ℕ → ℕ → List ℕ
decimal_rest s start end = rest_in s (decimal s start end)

-- what each answer of the reading says in these terms
abbrev pub split_read : Decimal → Split
split_read d =
    record {
      exponent_negative = d.exponent_negative;
      exponent = d.exponent;
      coefficient = record { negative = d.coefficient.negative; first = d.coefficient.first; rest = d.coefficient.rest; end = d.coefficient.end };
    }

abbrev pub decimal_read : Result Decimal Refusal → Outcome Split
decimal_read = outcome split_read

-- the integer of a sign and a magnitude: both zeros are 0
abbrev pub integer : Bool → ℕ → ℤ
integer true m = neg_ℤ (pos m)
integer false m = pos m

abbrev pub var_int_of : List ℕ → ℤ
var_int_of bs = integer (var_int_negative bs) (var_int_magnitude bs)

-- what a split is worth: this exponent, whose zero is not negative and which fits 62 bits, and as its coefficient the Int of the bytes at..end
pub record Worth (s : List ℕ) (exponent : ℤ) (at end : ℕ) (d : Split) : Type 0 where
  pub exponent_is : integer d.exponent_negative d.exponent ≡ exponent
  pub one_zero : d.exponent ≡ 0 → d.exponent_negative ≡ false
  pub small : d.exponent < 2 ^ 62
  pub coefficient_is : IntMeaning s at end (end - at) d.coefficient

-- "5: decimal": the representation is an exponent, a VarInt, and then a coefficient, an Int; of 0d0 there is none. What the bytes are under each answer: none;
-- such a VarInt of at most nine bytes and the Int behind it; a part outside the slice; no last byte in the body; or a VarInt of more than nine bytes.
pub data DecimalMeaning (s : List ℕ) (start end : ℕ) : Outcome Split → Type 0 where
  empty : {d : Split} → start ≡ end → Worth s (pos 0) end end d → DecimalMeaning s start end (gives d)
  split : {at : ℕ} {d : Split} → NumberAt s start end at → at ≤ start + 9 → Worth s (var_int_of (part s start at)) at end d → DecimalMeaning s start end (gives d)
  outside : (end < start) ⊎ (length s < end) → DecimalMeaning s start end (refuses 50 0)
  cut_short : start < end → end ≤ length s → ((i : ℕ) → start ≤ i → i < end → get_or s i 0 < 128) → DecimalMeaning s start end (refuses 4 end)
  too_long : {at : ℕ} → NumberAt s start end at → start + 9 < at → DecimalMeaning s start end (refuses 20 start)

-- every answer means this
abbrev pub DecimalsSound : Type 0
DecimalsSound = (s : List ℕ) (start end : ℕ) → DecimalMeaning s start end (decimal s start end)

-- a decimal of that value was split
abbrev pub SplitInto : List ℕ → ℕ → ℤ → ℕ → ℕ → Type 0
SplitInto s start exponent at end = (d : Split) × (decimal s start end ≡ gives d) × Worth s exponent at end d

-- such bytes, the VarInt of at most nine, are split so, and nothing else is answered; and so are none
abbrev pub DecimalsComplete : Type 0
DecimalsComplete =
    (s : List ℕ) (start at end : ℕ) → NumberAt s start end at → at ≤ start + 9 → SplitInto s start (var_int_of (part s start at)) at end

abbrev pub EmptyDecimals : Type 0
EmptyDecimals = (s : List ℕ) (end : ℕ) → end ≤ length s → SplitInto s end (pos 0) end end

-- the answer depends on the body's bytes alone, refusals too
abbrev pub DecimalsLocal : Type 0
DecimalsLocal =
    (s t : List ℕ) (start end : ℕ) → end ≤ length s → end ≤ length t → Same s t start end → decimal s start end ≡ decimal t start end

-- the same answer n bytes further on
abbrev pub moved_fixed : ℕ → Fixed → Fixed
moved_fixed n c = record { negative = c.negative; first = c.first; rest = n + c.rest; end = n + c.end }

abbrev pub moved_split : ℕ → Split → Split
moved_split n d =
    record { exponent_negative = d.exponent_negative; exponent = d.exponent; coefficient = moved_fixed n d.coefficient }

abbrev pub moved_decimal : ℕ → Outcome Split → Outcome Split
moved_decimal n (gives d) = gives (moved_split n d)
moved_decimal n (refuses number position) = refuses number (n + position)

-- and on those bytes wherever they stand: n bytes further on, and in another slice, they have the same answer, its positions n further on
abbrev pub DecimalsMoved : Type 0
DecimalsMoved =
    (s t : List ℕ) (n start end : ℕ)
    → start ≤ end
    → end ≤ length s
    → n + end ≤ length t
    → ((i : ℕ) → start ≤ i → i < end → get_or s i 0 ≡ get_or t (n + i) 0)
    → decimal t (n + start) (n + end) ≡ moved_decimal n (decimal s start end)
