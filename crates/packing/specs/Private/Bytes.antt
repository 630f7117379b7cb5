-- How a part and a value are packed, by their places.
-- Assumes nothing.
use Rattle.std.specs.Prelude.{ℕ, ◌-◌, List, length}
use Rattle.numbers.specs.Bytes.{part}
use Rattle.numbers.specs.Outcome.{pick}
use Rattle.framing.specs.Spans.{Spans}
use Rattle.stepping.specs.declared.cursor.Rules.{Rules}
use Rattle.values.specs.Scalars.{is_container, body_rules}
use Rattle.packing.specs.Tree.{Tree, written, bytes_of}
use Rattle.packing.specs.Packed.{head_of, tree_in}

-- the part at..hi with as many bytes as it has: its tree, and that in bytes
unfoldable pub tree_at : ℕ → List ℕ → Rules → ℕ → ℕ → Tree
tree_at limit s rules hi at = tree_in limit (hi - at) s rules hi at

unfoldable pub bytes_at : ℕ → List ℕ → Rules → ℕ → ℕ → List ℕ
bytes_at limit s rules hi at = bytes_of (tree_at limit s rules hi at)

-- the body of a value, packed, and the value, whose field ID begins at `from`
unfoldable pub body_bytes : ℕ → List ℕ → Spans → List ℕ
body_bytes limit s v = pick (is_container v) (bytes_at limit s (body_rules v) v.end v.body) (part s v.body v.end)

unfoldable pub value_bytes : ℕ → List ℕ → ℕ → Spans → List ℕ
value_bytes limit s from v = written (head_of s (part s from v.start) v (length (body_bytes limit s v))) (body_bytes limit s v)
