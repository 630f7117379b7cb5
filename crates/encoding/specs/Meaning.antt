-- What is written, read back, and that nothing with the same worth is shorter. The proofs: `var_uint_written`, `var-uint-sized` and `var-uint-shortest` of
-- proofs/VarUInts.antt; `head-shortest`, `typed-back` and `wrapper-back` of proofs/Heads.antt.
-- Assumes nothing.
use Rattle.std.specs.Prelude.{ℕ, suc, ◌+◌, ◌-◌, ◌^◌, ◌≤◌, ◌<◌, ◌≡◌, ◌⊎◌, List, length}
use Rattle.numbers.specs.Format.{VarBytes, var_uint_of, uint_of}
use Rattle.numbers.specs.Bytes.{part}
use Rattle.framing.specs.Spans.{Spans}
use Rattle.framing.specs.Format.{CodeLength, TypedValue, AnnotationWrapper}
use Rattle.encoding.specs.Fields.{var_uint_in, var_uint_size, var_uint_bytes, big_endian}
use Rattle.encoding.specs.Heads.{head_size, typed_bytes, typed_spans, wrapped_bytes, wrapper_bytes, wrapper_spans}

-- a VarUInt of k + 1 bytes is a field of the document, and tells what was written
pub record WrittenIn (k n : ℕ) : Type 0 where
  pub bytes : VarBytes (var_uint_in k n)
  pub size : length (var_uint_in k n) ≡ suc k
  pub worth : n < 128 ^ suc k → var_uint_of (var_uint_in k n) ≡ n

abbrev pub VarUIntWritten : Type 0
VarUIntWritten = (k n : ℕ) → WrittenIn k n

-- what nine bytes can tell is told in nine at most; the nine bytes' 2^63 is a number here and no name
pub record Sized (n : ℕ) : Type 0 where
  pub some : 1 ≤ var_uint_size n
  pub few : var_uint_size n ≤ 9
  pub bytes : VarBytes (var_uint_bytes n)
  pub size : length (var_uint_bytes n) ≡ var_uint_size n
  pub worth : var_uint_of (var_uint_bytes n) ≡ n

abbrev pub VarUIntSized : Type 0
VarUIntSized = (n : ℕ) → n < 2 ^ 63 → Sized n

-- and nine bytes tell no more
abbrev pub VarUIntPast : Type 0
VarUIntPast = (n : ℕ) → 2 ^ 63 ≤ n → 9 < var_uint_size n

-- no VarUInt with that worth is shorter
abbrev pub VarUIntShortest : Type 0
VarUIntShortest = (bs : List ℕ) → VarBytes bs → var_uint_size (var_uint_of bs) ≤ length bs

-- a larger number has no fewer bytes
abbrev pub VarUIntGrows : Type 0
VarUIntGrows = (m n : ℕ) → m ≤ n → var_uint_size m ≤ var_uint_size n

-- a UInt of k bytes tells what was written
pub record UIntIn (k n : ℕ) : Type 0 where
  pub size : length (big_endian k n) ≡ k
  pub worth : n < 256 ^ k → uint_of (big_endian k n) ≡ n

abbrev pub UIntWritten : Type 0
UIntWritten = (k n : ℕ) → UIntIn k n

-- no descriptor and length field of the document with that length is shorter
abbrev pub HeadShortest : Type 0
HeadShortest = (s : List ℕ) (at end body code n : ℕ) → CodeLength s at end body code n → head_size n ≤ 1 + (body - at)

abbrev pub HeadGrows : Type 0
HeadGrows = (m n : ℕ) → m ≤ n → head_size m ≤ head_size n

-- these bytes stand at a position of a slice, in its part that ends at `end`
pub record StandsAt (s : List ℕ) (at end : ℕ) (bs : List ℕ) : Type 0 where
  pub same : part s at (at + length bs) ≡ bs
  pub fits : at + length bs ≤ end
  pub within : end ≤ length s

-- what a value of a type with a length can be: "float": 0, 4 and 8 bytes; "timestamp": two bytes at least; "struct": its code 1 says something else
pub record Writable (type n : ℕ) : Type 0 where
  pub low : 2 ≤ type
  pub high : type ≤ 13
  pub float : type ≡ 4 → (n ≡ 0) ⊎ (n ≡ 4) ⊎ (n ≡ 8)
  pub timestamp : type ≡ 6 → 2 ≤ n
  pub struct : type ≡ 13 → n ≡ 1 → ⊥
  pub small : n < 2 ^ 63

-- such a value, wherever its bytes stand, is that value, and its header has ten bytes at most
abbrev pub TypedBack : Type 0
TypedBack =
    (s : List ℕ) (at end type : ℕ) (body : List ℕ) → Writable type (length body) → StandsAt s at end (typed_bytes type body)
    → TypedValue s at end (typed_spans type at (length body)) × (head_size (length body) ≤ 1 + 9)

-- a wrapper and its value, wherever their bytes stand: the value by itself, behind its annotations, and the wrapper around it. The three bounds are those of
-- the reader: its length fields have nine bytes at most
pub record Wrapper (s : List ℕ) (at end : ℕ) (m : ℕ) (inner : Spans) : Type 0 where
  pub is : AnnotationWrapper s at end (wrapper_spans at m inner)
  pub near : is.after ≤ at + 1 + 9
  pub close : inner.descriptor - m ≤ is.after + 9

abbrev pub WrapperBack : Type 0
WrapperBack =
    (s : List ℕ) (at end : ℕ) (annotations value : List ℕ) (inner : Spans)
    → 0 < length annotations → length (wrapped_bytes annotations value) < 2 ^ 63 → StandsAt s at end (wrapper_bytes annotations value)
    → TypedValue s inner.descriptor end inner → inner.end ≡ inner.descriptor + length value
    → inner.end ≡ at + length (wrapper_bytes annotations value)
    → Wrapper s at end (length annotations) inner
