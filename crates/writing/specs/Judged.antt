-- What is refused is what A.5 refuses of the thing taken as a map, to the letter: "its number is given, the position counted in the lent bytes then read .. and
-- 0 where the reader names a descriptor still to be written". And what is written A.5 accepts. The proofs: `judged_as_a_map` and `accepted_as_a_map` of
-- proofs/Judging.antt, `one_byte_judged` of proofs/OneByteJudged.antt, `scalars_judged` and `scalars_accepted` of proofs/ScalarsJudged.antt, `bare_judged` and
-- `bare_accepted` of proofs/BareJudged.antt, `wrappers_judged` and `wrappers_accepted` of proofs/WrappersJudged.antt.
-- Assumes nothing.
use Rattle.std.specs.Prelude.{ℕ, ◌+◌, ◌-◌, ◌≡◌, Bool, true, false, List, ◌∷◌, length}
use Rattle.numbers.specs.Outcome.{Outcome, gives, refuses, pick}
use Rattle.framing.specs.Answers.{read_value}
use Rattle.walking.specs.Walk.{limits_out}
use Rattle.checking.specs.Reading.{Done, done, read_ids}
use Rattle.checking.specs.Check.{whole_check}
use Rattle.encoding.specs.Heads.{head_size, typed_bytes, wrapper_bytes, wrapper_size}
use Rattle.writing.specs.Things.{Thing, null, bool, int, float, symbol, scalar, pad, container, wrapper, written}
use Rattle.writing.specs.Answers.{outside, too_long, judged}
use Rattle.writing.specs.Theorems.{Sound}

-- a check's answer in the lent bytes, before which the map has n bytes: a position before them is that of a descriptor still to be written, and counts as 0
abbrev pub counted_from : ℕ → Outcome (List ℕ) → Outcome Done
counted_from n (gives counts) = gives done
counted_from n (refuses number position) = refuses number (position - n)

-- a container around a body, but for a struct's of one byte: D1 would be an ordered struct's descriptor
abbrev pub JudgedContainers : Type 0
JudgedContainers =
    (limit deepest type : ℕ) (body : List ℕ) → limits_out limit deepest ≡ false → outside (container type body) ≡ false → too_long (container type body) ≡ false
    → (type ≡ 13 → length body ≡ 1 → ⊥)
    → judged limit deepest (container type body) ≡ counted_from (head_size (length body)) (whole_check limit deepest (typed_bytes type body))

-- "A one-byte struct body is judged behind DE 81."
abbrev pub JudgedOneByteStructs : Type 0
JudgedOneByteStructs =
    (limit deepest : ℕ) (body : List ℕ) → limits_out limit deepest ≡ false → length body ≡ 1
    → judged limit deepest (container 13 body) ≡ counted_from 2 (whole_check limit deepest (222 ∷ 129 ∷ body))

-- a decimal, a timestamp, a string, a clob or a blob
abbrev pub JudgedScalars : Type 0
JudgedScalars =
    (limit deepest type : ℕ) (body : List ℕ) → limits_out limit deepest ≡ false → outside (scalar type body) ≡ false → too_long (scalar type body) ≡ false
    → judged limit deepest (scalar type body) ≡ counted_from (head_size (length body)) (whole_check limit deepest (typed_bytes type body))

-- The others that have no lent body: a null, a bool, an int, a float, a symbol, a pad. What is refused of them, an int's negative zero, is refused at the
-- descriptor.
pub data Bare : Thing → Type 0 where
  a_null : {type : ℕ} → Bare (null type)
  a_bool : {value : Bool} → Bare (bool value)
  an_int : {negative : Bool} {magnitude : List ℕ} → Bare (int negative magnitude)
  a_float : {bits : ℕ} → Bare (float bits)
  a_symbol : {id : ℕ} → Bare (symbol id)
  a_pad : {size : ℕ} → Bare (pad size)

abbrev pub JudgedBare : Type 0
JudgedBare =
    (limit deepest : ℕ) (thing : Thing) → Bare thing → limits_out limit deepest ≡ false → outside thing ≡ false → too_long thing ≡ false
    → judged limit deepest thing ≡ counted_from 0 (whole_check limit deepest (written thing))

-- Of a wrapper annotations and value are lent. "The lent bytes then read": A.5 frames the value, then reads the annotations' IDs, then the value's scalar or
-- its inside. So a refusal of an ID is counted in the annotations, also where an ID is cut short at their end, and any other in the value. The annotations'
-- m bytes stand at w in the map s, the value behind them.
abbrev pub is_refused : {A : Type 0} → Outcome A → Bool
is_refused (gives a) = false
is_refused (refuses number position) = true

abbrev pub lent_from : ℕ → List ℕ → ℕ → ℕ → ℕ
lent_from limit s w m = pick (is_refused (read_value limit s 0 (length s))) (w + m) (pick (is_refused (read_ids s w (w + m))) w (w + m))

abbrev pub JudgedWrappers : Type 0
JudgedWrappers =
    (limit deepest : ℕ) (annotations value : List ℕ) → limits_out limit deepest ≡ false → too_long (wrapper annotations value) ≡ false
    → judged limit deepest (wrapper annotations value)
    ≡ counted_from (lent_from limit (wrapper_bytes annotations value) (wrapper_size (length annotations) (length value)) (length annotations))
    (whole_check limit deepest (wrapper_bytes annotations value))

-- what is written of these is accepted
abbrev pub AcceptedContainers : Type 0
AcceptedContainers =
    (limit deepest type : ℕ) (body : List ℕ) → limits_out limit deepest ≡ false → Sound limit deepest (container type body)
    → (counts : List ℕ) × (whole_check limit deepest (written (container type body)) ≡ gives counts)

abbrev pub AcceptedScalars : Type 0
AcceptedScalars =
    (limit deepest type : ℕ) (body : List ℕ) → limits_out limit deepest ≡ false → Sound limit deepest (scalar type body)
    → (counts : List ℕ) × (whole_check limit deepest (written (scalar type body)) ≡ gives counts)

abbrev pub AcceptedBare : Type 0
AcceptedBare =
    (limit deepest : ℕ) (thing : Thing) → Bare thing → limits_out limit deepest ≡ false → Sound limit deepest thing
    → (counts : List ℕ) × (whole_check limit deepest (written thing) ≡ gives counts)

abbrev pub AcceptedWrappers : Type 0
AcceptedWrappers =
    (limit deepest : ℕ) (annotations value : List ℕ) → limits_out limit deepest ≡ false → Sound limit deepest (wrapper annotations value)
    → (counts : List ℕ) × (whole_check limit deepest (written (wrapper annotations value)) ≡ gives counts)
