-- An entry's answer in the scope paper's terms: what it gives, or a refusal's number and position.
-- Assumes nothing.
use Rattle.std.specs.Prelude.{ℕ, Bool, true, false, List, length, ltb}

pub data Outcome (A : Type 0) : Type 0 where
  gives : A → Outcome A
  refuses : ℕ → ℕ → Outcome A

abbrev pub pick : {A : Type 0} → Bool → A → A → A
pick true a b = a
pick false a b = b

-- a test and its refusal, and what comes after it
abbrev pub refuse_if : {A : Type 0} → Bool → ℕ → ℕ → Outcome A → Outcome A
refuse_if true number position o = refuses number position
refuse_if false number position o = o

-- a reading, and what is made of what it gives
abbrev pub and_then : {A B : Type 0} → Outcome A → (A → Outcome B) → Outcome B
and_then (gives a) f = f a
and_then (refuses number position) f = refuses number position

-- at..end is no part of the slice: out of order, or past its end
unfoldable pub outside_of : List ℕ → ℕ → ℕ → Bool
outside_of s at end = pick (ltb end at) true (ltb (length s) end)

-- Refusal 50: "parts or positions outside the slice, out of order", position 0.
abbrev pub within : {A : Type 0} → List ℕ → ℕ → ℕ → Outcome A → Outcome A
within s at end o = refuse_if (outside_of s at end) 50 0 o
