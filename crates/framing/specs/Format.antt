-- Typed values, pads and annotation wrappers of the Ion 1.0 Binary Encoding, by their bytes: what stands at at..end' of a slice's part that ends at `end`.
-- No cursor, no refusal and no limit of ours.
-- Assumes nothing.
use Rattle.std.specs.Prelude.{ℕ, ◌+◌, ◌-◌, ◌/◌, ◌%◌, ◌≤◌, ◌<◌, ◌≡◌, ◌⊎◌, List, length, get_or}
use Rattle.numbers.specs.Format.{var_uint_of, NumberAt}
use Rattle.numbers.specs.Bytes.{part}
use Rattle.framing.specs.Spans.{Spans, Padding}

-- "Typed Value Formats": a descriptor's high four bits are the type code T, its low four the length code L
abbrev pub type_at : List ℕ → ℕ → ℕ
type_at s at = get_or s at 0 / 16

abbrev pub code_at : List ℕ → ℕ → ℕ
code_at s at = get_or s at 0 % 16

-- the length field at..body: an L from 0 to 13 is the length, with no field; after an L of 14 a VarUInt is
pub data CodeLength (s : List ℕ) (at end body : ℕ) : ℕ → ℕ → Type 0 where
  short : {code : ℕ} → code < 14 → body ≡ at → CodeLength s at end body code code
  long : NumberAt s at end body → CodeLength s at end body 14 (var_uint_of (part s at body))

-- a value's length by its type and L: null and bool have no representation ("bool": L is the value), nor has a typed null, whose L is 15; a struct's L of
-- 1 says that its fields are ordered, and a VarUInt follows; otherwise as above
pub data ValueLength (s : List ℕ) (at end body : ℕ) : ℕ → ℕ → ℕ → Type 0 where
  none : {type code : ℕ} → type < 2 → body ≡ at → ValueLength s at end body type code 0
  null : {type : ℕ} → 2 ≤ type → body ≡ at → ValueLength s at end body type 15 0
  coded : {type code n : ℕ} → 2 ≤ type → (type ≡ 13 → code ≡ 1 → ⊥) → CodeLength s at end body code n → ValueLength s at end body type code n
  ordered : {n : ℕ} → CodeLength s at end body 14 n → ValueLength s at end body 13 1 n

-- types 1 to 13, and null.null, which is 0F
pub data ValueType : ℕ → ℕ → Type 0 where
  typed : {type code : ℕ} → 1 ≤ type → type ≤ 13 → ValueType type code
  null_null : ValueType 0 15

-- "float": 0, 4 and 8 bytes; "timestamp": an offset and a year at least; "struct": an ordered one has a field
pub record Legal (type code n : ℕ) : Type 0 where
  pub float : type ≡ 4 → (code ≡ 0) ⊎ (code ≡ 4) ⊎ (code ≡ 8) ⊎ (code ≡ 15)
  pub timestamp : type ≡ 6 → code < 15 → 2 ≤ n
  pub ordered : type ≡ 13 → code ≡ 1 → 0 < n

-- a value without annotations: descriptor, length field, representation
pub record TypedValue (s : List ℕ) (at end : ℕ) (v : Spans) : Type 0 where
  pub type : ValueType (type_at s at) (code_at s at)
  pub field : ValueLength s (at + 1) end v.body (type_at s at) (code_at s at) (v.end - v.body)
  pub legal : Legal (type_at s at) (code_at s at) (v.end - v.body)
  pub byte : v.byte ≡ get_or s at 0
  pub start : v.start ≡ at
  pub annotations : v.annotations ≡ at
  pub descriptor : v.descriptor ≡ at
  pub low : at < v.body
  pub order : v.body ≤ v.end
  pub fits : v.end ≤ end
  pub within : end ≤ length s

-- "NOP Padding": T is 0, and L is not 15
pub record NopPadding (s : List ℕ) (at end : ℕ) (p : Padding) : Type 0 where
  pub type : type_at s at ≡ 0
  pub field : CodeLength s (at + 1) end p.body (code_at s at) (p.end - p.body)
  pub low : at < p.body
  pub order : p.body ≤ p.end
  pub fits : p.end ≤ end
  pub within : end ≤ length s

-- "Annotations": T is 14; a length, of all that follows it; the annotations' length, not 0; the annotations; and one value, not annotated itself
pub record AnnotationWrapper (s : List ℕ) (at end : ℕ) (v : Spans) : Type 0 where
  pub combined : ℕ
  pub after : ℕ
  pub type : type_at s at ≡ 14
  pub field : CodeLength s (at + 1) end after (code_at s at) combined
  pub low : at < after
  pub count : NumberAt s after end v.annotations
  pub size : v.descriptor ≡ v.annotations + var_uint_of (part s after v.annotations)
  pub some : v.annotations < v.descriptor
  pub inner : Spans
  pub value : TypedValue s v.descriptor end inner
  pub all : combined ≡ v.end - after
  pub start : v.start ≡ at
  pub byte : v.byte ≡ inner.byte
  pub body : v.body ≡ inner.body
  pub ends : v.end ≡ inner.end

pub data ValueBytes (s : List ℕ) (at end : ℕ) (v : Spans) : Type 0 where
  plain : TypedValue s at end v → ValueBytes s at end v
  annotated : AnnotationWrapper s at end v → ValueBytes s at end v
