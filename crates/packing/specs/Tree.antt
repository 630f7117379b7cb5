-- A map as a tree, without offsets, lengths and pads, and the tree in bytes, with each length "in [its] shortest form": the change requests A.11 and A.12.
-- Assumes nothing.
use Rattle.std.specs.Prelude.{ℕ, ◌*◌, ◌/◌, ◌%◌, Bool, true, List, [], ◌∷◌, ◌++◌, length, ltb, eqb}
use Rattle.numbers.specs.Outcome.{pick}
use Rattle.encoding.specs.Fields.{var_uint_bytes}
use Rattle.encoding.specs.Heads.{head_bytes, wrapper_bytes}

-- what goes with a value: its field ID's bytes, which it has in a struct, its annotations' bytes, and its descriptor without its length
pub record Head : Type 0 where
  pub name : List ℕ
  pub annotations : List ℕ
  pub byte : ℕ

-- what comes next in a part, and the rest of it: nothing; a marker with its two numbers; a scalar or a null with its body; a container with what is in it
pub data Tree : Type 0 where
  nothing : Tree
  mark : ℕ → ℕ → Tree → Tree
  leaf : Head → List ℕ → Tree → Tree
  branch : Head → Tree → Tree → Tree

-- "Descriptors of nulls and bools are copied": no length stands in them
unfoldable pub lengthless : ℕ → Bool
lengthless byte = pick (ltb (byte / 16) 2) true (eqb (byte % 16) 15)

-- "struct": an L of 1 says that its fields are ordered, and a VarUInt follows; and the empty struct
abbrev pub ordered_byte : ℕ
ordered_byte = 209

abbrev pub empty_struct : ℕ
empty_struct = 208

-- a descriptor without its length, of a value whose body then has n bytes: "an ordered struct left empty becomes D0", and no other loses its order
unfoldable pub kept_byte : ℕ → ℕ → ℕ
kept_byte byte n =
    pick (lengthless byte) byte
    (pick (eqb byte ordered_byte) (pick (eqb n 0) empty_struct ordered_byte) (byte / 16 * 16))

-- descriptor and length of a body of n bytes: "an ordered struct [..] stays ordered with a VarUInt length"
unfoldable pub header_of : ℕ → ℕ → List ℕ
header_of byte n =
    pick (lengthless byte) (byte ∷ []) (pick (eqb byte ordered_byte) (byte ∷ var_uint_bytes n) (head_bytes (byte / 16) n))

-- a value behind its annotations, if it has any
unfoldable pub wrapping : List ℕ → List ℕ → List ℕ
wrapping annotations value = pick (eqb (length annotations) 0) value (wrapper_bytes annotations value)

-- "Annotation bytes, field ID bytes, scalar bodies [..] are copied"
unfoldable pub written : Head → List ℕ → List ℕ
written h body = h.name ++ wrapping h.annotations (header_of h.byte (length body) ++ body)

-- "Markers stay"; "all pads, and struct pads with their field IDs, are gone"
unfoldable pub bytes_of : Tree → List ℕ
bytes_of nothing = []
bytes_of (mark major minor rest) = 224 ∷ major ∷ minor ∷ 234 ∷ bytes_of rest
bytes_of (leaf h body rest) = written h body ++ bytes_of rest
bytes_of (branch h inside rest) = written h (bytes_of inside) ++ bytes_of rest
