-- What the scalar reading says of a value's bytes, by the Ion document's "Typed Value Formats", the Unicode Standard and IEEE 754: one case for each
-- answer and for each refusal of its own. What is answered is what the bytes mean, and what they mean is what is answered. `scalars_meant` of
-- proofs/Meanings.antt.
-- Assumes nothing.
use Rattle.std.specs.Prelude.{ℕ, ◌-◌, ◌^◌, ◌≤◌, ◌<◌, ◌≡◌, true, false, List, get_or}
use Rattle.std.specs.Float.{binary32, binary64}
use Rattle.std.specs.Float.Ieee.{of_bits, nan_bits}
use Rattle.numbers.specs.Format.{uint_of}
use Rattle.numbers.specs.Outcome.{Outcome, gives, refuses}
use Rattle.numbers.specs.Bytes.{part}
use Rattle.framing.specs.Spans.{Spans}
use Rattle.framing.specs.Format.{type_at, code_at}
use Rattle.bodies.specs.Utf8.{ScalarValues, encoded}
use Rattle.bodies.specs.Widen.{NanKept}
use Rattle.values.specs.Scalars.{value_in, Scalar, null, bool, int, float, decimal, timestamp, symbol, string, clob, blob, container, read_scalar}

-- a value's type code T, its length code L, and the bytes of its representation
abbrev pub type : List ℕ → Spans → ℕ
type s v = type_at s v.descriptor

abbrev pub code : List ℕ → Spans → ℕ
code s v = code_at s v.descriptor

abbrev pub bytes : List ℕ → Spans → List ℕ
bytes s v = part s v.body v.end

-- the type of a null: its T, and 2 for both of an int's
pub data NullType : ℕ → ℕ → Type 0 where
  negative_int : NullType 3 2
  as_coded : {t : ℕ} → (t ≡ 3 → ⊥) → NullType t t

-- a..end are the body's bytes from its first that is not zero on: the bytes before it are zero, it is not, and a..end is worth as much
pub record Magnitude (s : List ℕ) (v : Spans) (a : ℕ) : Type 0 where
  pub low : v.body ≤ a
  pub high : a ≤ v.end
  pub zeros : (i : ℕ) → v.body ≤ i → i < a → get_or s i 0 ≡ 0
  pub leading : a < v.end → 0 < get_or s a 0
  pub worth : uint_of (part s a v.end) ≡ uint_of (bytes s v)

-- w are the 64 bits of the number whose 32 bits are b, and a NaN's keep its sign and its fraction
pub record Widened (b w : ℕ) : Type 0 where
  pub number : of_bits binary64 w ≡ of_bits binary32 b
  pub fits : w < 2 ^ 64
  pub nan : nan_bits binary32 b ≡ true → NanKept b w

-- the bytes are the UTF-8 of a list of Unicode scalar values
abbrev pub Text : List ℕ → Type 0
Text bs = (cs : List ℕ) × ScalarValues cs × (encoded cs ≡ bs)

pub data Means (s : List ℕ) (v : Spans) : Outcome Scalar → Type 0 where
  a_null : {t : ℕ} → code s v ≡ 15 → NullType (type s v) t → Means s v (gives (null t))
  a_false : type s v ≡ 1 → code s v ≡ 0 → Means s v (gives (bool false))
  a_true : type s v ≡ 1 → code s v ≡ 1 → Means s v (gives (bool true))
  no_bool : type s v ≡ 1 → 1 < code s v → code s v < 15 → Means s v (refuses 33 v.descriptor)
  a_positive : {a : ℕ} → type s v ≡ 2 → code s v < 15 → Magnitude s v a → Means s v (gives (int false a v.end))
  a_negative : {a : ℕ} → type s v ≡ 3 → code s v < 15 → Magnitude s v a → 0 < uint_of (bytes s v) → Means s v (gives (int true a v.end))
  negative_zero : type s v ≡ 3 → code s v < 15 → uint_of (bytes s v) ≡ 0 → Means s v (refuses 34 v.descriptor)
  no_float_bits : type s v ≡ 4 → code s v ≡ 0 → Means s v (gives (float 0))
  a_single : {w : ℕ} → type s v ≡ 4 → code s v ≡ 4 → Widened (uint_of (bytes s v)) w → Means s v (gives (float w))
  a_double : type s v ≡ 4 → code s v ≡ 8 → Means s v (gives (float (uint_of (bytes s v))))
  a_decimal : type s v ≡ 5 → code s v < 15 → Means s v (gives (decimal v.body v.end))
  a_timestamp : type s v ≡ 6 → code s v < 15 → Means s v (gives (timestamp v.body v.end))
  a_symbol : type s v ≡ 7 → code s v < 15 → v.end - v.body ≤ 8 → Means s v (gives (symbol (uint_of (bytes s v))))
  long_symbol : type s v ≡ 7 → code s v < 15 → 8 < v.end - v.body → Means s v (refuses 35 v.descriptor)
  a_string : type s v ≡ 8 → code s v < 15 → Text (bytes s v) → Means s v (gives (string v.body v.end))
  no_text : type s v ≡ 8 → code s v < 15 → (Text (bytes s v) → ⊥) → Means s v (refuses 36 v.descriptor)
  a_clob : type s v ≡ 9 → code s v < 15 → Means s v (gives (clob v.body v.end))
  a_blob : type s v ≡ 10 → code s v < 15 → Means s v (gives (blob v.body v.end))
  a_container : 11 ≤ type s v → type s v ≤ 13 → code s v < 15 → Means s v (gives container)

-- Of a value that is framed, its reading means this of its bytes. What the framing refuses, the reading refuses with it.
pub record ScalarMeaning (limit : ℕ) (s : List ℕ) (start end at : ℕ) : Type 0 where
  pub framed : (v : Spans) → value_in limit s start end at ≡ gives v → Means s v (read_scalar limit s start end at)
  -- and what the bytes mean is what is answered: no two answers are meant of one value
  pub complete : (v : Spans) → value_in limit s start end at ≡ gives v → (o : Outcome Scalar) → Means s v o → read_scalar limit s start end at ≡ o
  pub refused : (number position : ℕ) → value_in limit s start end at ≡ refuses number position → read_scalar limit s start end at ≡ refuses number position

abbrev pub ScalarsMeant : Type 0
ScalarsMeant = (limit : ℕ) (s : List ℕ) (start end at : ℕ) → ScalarMeaning limit s start end at
