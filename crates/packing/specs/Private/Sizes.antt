-- How many bytes what is written has: by numbers alone.
-- Assumes nothing.
use Rattle.std.specs.Prelude.{ℕ, ◌+◌, eqb}
use Rattle.numbers.specs.Outcome.{pick}
use Rattle.encoding.specs.Fields.{var_uint_size}
use Rattle.encoding.specs.Heads.{head_size}
use Rattle.packing.specs.Tree.{lengthless, ordered_byte}

-- of `header_of`
unfoldable pub header_size : ℕ → ℕ → ℕ
header_size byte n = pick (lengthless byte) 1 (pick (eqb byte ordered_byte) (1 + var_uint_size n) (head_size n))

-- of `wrapped_bytes`: m bytes of annotations around a value of n bytes
unfoldable pub wrapped_size : ℕ → ℕ → ℕ
wrapped_size m n = var_uint_size m + (m + n)

-- of `wrapping`
unfoldable pub wrap_size : ℕ → ℕ → ℕ
wrap_size m n = pick (eqb m 0) n (head_size (wrapped_size m n) + wrapped_size m n)

-- of a value whose field ID has i bytes and its annotations m, and whose body n
unfoldable pub value_size : ℕ → ℕ → ℕ → ℕ → ℕ
value_size i m byte n = i + wrap_size m (header_size byte n + n)
