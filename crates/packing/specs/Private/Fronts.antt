-- What goes before a value's body, in the order in which it is written.
-- Assumes nothing.
use Rattle.std.specs.Prelude.{ℕ, ◌+◌, List, [], ◌++◌, length, eqb}
use Rattle.numbers.specs.Outcome.{pick}
use Rattle.encoding.specs.Fields.{var_uint_bytes}
use Rattle.encoding.specs.Heads.{head_bytes}
use Rattle.packing.specs.Tree.{Head, header_of}
use Rattle.packing.specs.Private.Sizes.{header_size, wrapped_size}

-- a wrapper's lengths and its annotations, before a value of n bytes; nothing where there are no annotations
unfoldable pub wrap_front : List ℕ → ℕ → List ℕ
wrap_front annotations n =
    pick (eqb (length annotations) 0) []
    (head_bytes 14 (wrapped_size (length annotations) n) ++ (var_uint_bytes (length annotations) ++ annotations))

-- name, wrapper, descriptor and length, before a body of n bytes
unfoldable pub front_of : Head → ℕ → List ℕ
front_of h n = h.name ++ (wrap_front h.annotations (header_size h.byte n + n) ++ header_of h.byte n)
