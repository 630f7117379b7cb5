-- What holds of what is written. The proofs: `pads-back` of proofs/PadsBack.antt, `values-back`, `scalars-back` and `containers-back` of proofs/Back.antt,
-- `wrappers-back` of proofs/WrappersBack.antt.
-- Assumes nothing.
use Rattle.std.specs.Prelude.{ℕ, ◌+◌, ◌-◌, ◌≤◌, ◌≡◌, Bool, false, List, length, replicate}
use Rattle.numbers.specs.Outcome.{gives}
use Rattle.numbers.specs.Bytes.{part}
use Rattle.framing.specs.Answers.{padding, read_frame, read_value}
use Rattle.framing.specs.ShortValue.{bare_spans}
use Rattle.checking.specs.Reading.{done}
use Rattle.encoding.specs.Heads.{head_size, typed_spans}
use Rattle.encoding.specs.Meaning.{StandsAt}
use Rattle.writing.specs.Things.{Thing, null, bool, int, float, symbol, scalar, pad, container, int_type, significant, float_body, symbol_body, null_byte, bool_byte, pad_field, pad_bytes, written}
use Rattle.writing.specs.Answers.{outside, too_long, judged}

-- what is accepted: no argument is outside, no length past nine bytes, and the reader refuses nothing of it
pub record Sound (limit deepest : ℕ) (thing : Thing) : Type 0 where
  pub inside : outside thing ≡ false
  pub short : too_long thing ≡ false
  pub unrefused : judged limit deepest thing ≡ gives done

-- the values that are written with a representation: type code and representation
pub data Bodied : Thing → ℕ → List ℕ → Type 0 where
  an_int : {negative : Bool} {magnitude : List ℕ} → Bodied (int negative magnitude) (int_type negative) (significant magnitude)
  a_float : {bits : ℕ} → Bodied (float bits) 4 (float_body bits)
  a_symbol : {id : ℕ} → Bodied (symbol id) 7 (symbol_body id)
  a_scalar : {type : ℕ} {body : List ℕ} → Bodied (scalar type body) type body
  a_container : {type : ℕ} {body : List ℕ} → Bodied (container type body) type body

-- Wherever such a value stands in any map, the reader frames it, and its body has those bytes.
pub record FramedBack (limit : ℕ) (s : List ℕ) (at end type : ℕ) (body : List ℕ) : Type 0 where
  pub framed : read_value limit s at end ≡ gives (typed_spans type at (length body))
  pub bytes : part s (at + head_size (length body)) (at + head_size (length body) + length body) ≡ body

abbrev pub ValuesBack : Type 0
ValuesBack =
    (limit deepest : ℕ) (thing : Thing) (type : ℕ) (body : List ℕ) → Bodied thing type body → Sound limit deepest thing
    → (s : List ℕ) (at end : ℕ) → StandsAt s at end (written thing) → FramedBack limit s at end type body

-- A null and a bool are one byte.
abbrev pub NullsBack : Type 0
NullsBack =
    (limit type : ℕ) → type ≤ 13 → (s : List ℕ) (at end : ℕ) → StandsAt s at end (written (null type))
    → read_value limit s at end ≡ gives (bare_spans (null_byte type) at (at + 1) (at + 1))

abbrev pub BoolsBack : Type 0
BoolsBack =
    (limit : ℕ) (value : Bool) (s : List ℕ) (at end : ℕ) → StandsAt s at end (written (bool value))
    → read_value limit s at end ≡ gives (bare_spans (bool_byte value) at (at + 1) (at + 1))

-- a pad of the size asked for, whose body is zeros
pub record PadBack (limit : ℕ) (s : List ℕ) (at end size : ℕ) : Type 0 where
  pub whole : length (pad_bytes size) ≡ size
  pub framed : read_frame limit s at end ≡ gives (padding (record { body = at + 1 + pad_field size; end = at + size }))
  pub zeros : part s (at + 1 + pad_field size) (at + size) ≡ replicate (size - 1 - pad_field size) 0

abbrev pub PadsBack : Type 0
PadsBack =
    (limit deepest size : ℕ) → Sound limit deepest (pad size) → (s : List ℕ) (at end : ℕ) → StandsAt s at end (written (pad size))
    → PadBack limit s at end size
