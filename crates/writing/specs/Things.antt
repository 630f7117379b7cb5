-- What is written, by the Ion 1.0 Binary Encoding: one scalar of any type, a null, a pad, a container around its body, a wrapper around a value. Bytes only:
-- no buffer, no refusal and no limit of ours.
-- Assumes nothing.
use Rattle.std.specs.Prelude.{ℕ, ◌+◌, ◌-◌, ◌*◌, Bool, List, [], ◌∷◌, ◌++◌, replicate, ltb, eqb}
use Rattle.numbers.specs.Outcome.{pick}
use Rattle.numbers.specs.Answers.{most_bytes}
use Rattle.encoding.specs.Fields.{var_uint_in, fewest, big_endian}
use Rattle.encoding.specs.Heads.{typed_bytes, wrapper_bytes}

-- a null of a type; a bool; an int by its sign and its magnitude's bytes, the most significant first; a float by its 64 bits; a symbol by its ID; a decimal, a
-- timestamp, a string, a clob or a blob by its type code and its representation; a pad of a total size; a list, a sexp or a struct by its type code and its
-- body; a wrapper by its annotations and its value
pub data Thing : Type 0 where
  null : ℕ → Thing
  bool : Bool → Thing
  int : Bool → List ℕ → Thing
  float : ℕ → Thing
  symbol : ℕ → Thing
  scalar : ℕ → List ℕ → Thing
  pad : ℕ → Thing
  container : ℕ → List ℕ → Thing
  wrapper : List ℕ → List ℕ → Thing

-- "a null of any type (int's is 2F)": the length code 15 behind the type code
unfoldable pub null_byte : ℕ → ℕ
null_byte type = pick (eqb type 3) 2 type * 16 + 15

-- "1: bool": its length code is 1 for true and 0 for false
unfoldable pub bool_byte : Bool → ℕ
bool_byte value = 1 * 16 + pick value 1 0

-- "2 and 3: int": the sign is in the type code
abbrev pub int_type : Bool → ℕ
int_type negative = pick negative 3 2

-- "without leading zero bytes"
unfoldable pub significant : List ℕ → List ℕ
significant [] = []
significant (b ∷ bs) = pick (eqb b 0) (significant bs) (b ∷ bs)

-- "4: float": "written in 8 bytes, positive zero in none"
unfoldable pub float_body : ℕ → List ℕ
float_body bits = pick (eqb bits 0) [] (big_endian 8 bits)

-- "7: symbol": a UInt, which is zero where it has no bytes
unfoldable pub symbol_body : ℕ → List ℕ
symbol_body id = significant (big_endian 8 id)

-- "NOP Padding": how many bytes the length field of a pad of a total size has. Up to 14 the length code is the length; else "a VarUInt in the fewest bytes that
-- give the size", and ten where nine don't
unfoldable pub pad_field : ℕ → ℕ
pad_field size = pick (ltb size 15) 0 (fewest most_bytes 1 (λ k. size - 1 - k))

-- a pad's descriptor and length field, and what it has behind them
unfoldable pub pad_head : ℕ → List ℕ
pad_head size = pick (ltb size 15) ((size - 1) ∷ []) (14 ∷ var_uint_in (pad_field size - 1) (size - 1 - pad_field size))

-- "A pad's body is zeros."
unfoldable pub pad_bytes : ℕ → List ℕ
pad_bytes size = pad_head size ++ replicate (size - 1 - pad_field size) 0

abbrev pub written : Thing → List ℕ
written (null type) = null_byte type ∷ []
written (bool value) = bool_byte value ∷ []
written (int negative magnitude) = typed_bytes (int_type negative) (significant magnitude)
written (float bits) = typed_bytes 4 (float_body bits)
written (symbol id) = typed_bytes 7 (symbol_body id)
written (scalar type body) = typed_bytes type body
written (pad size) = pad_bytes size
written (container type body) = typed_bytes type body
written (wrapper annotations value) = wrapper_bytes annotations value
