-- The packed map: what a walk of the map meets, written anew.
-- Assumes nothing.
use Rattle.std.specs.Prelude.{ℕ, zero, suc, List, [], length}
use Rattle.numbers.specs.Outcome.{Outcome, gives, refuses, pick}
use Rattle.numbers.specs.Bytes.{part}
use Rattle.framing.specs.Spans.{Spans}
use Rattle.stepping.specs.Items.{Item, finish, marker, value, field}
use Rattle.stepping.specs.Answers.{answer_at}
use Rattle.stepping.specs.declared.cursor.Rules.{Rules}
use Rattle.stepping.specs.declared.cursor.Rules.TheVariants.{Stream}
use Rattle.values.specs.Scalars.{is_container, body_rules}
use Rattle.packing.specs.Tree.{Head, Tree, nothing, mark, leaf, branch, kept_byte, bytes_of}

-- a value's head, of a value whose body then has n bytes
abbrev pub head_of : List ℕ → List ℕ → Spans → ℕ → Head
head_of s name v n =
    record { name = name; annotations = part s v.annotations v.descriptor; byte = kept_byte v.byte n }

-- a value, what is in it, where it is a container, and what comes behind it
unfoldable pub node_of : List ℕ → List ℕ → Spans → Tree → Tree → Tree
node_of s name v inside rest =
    pick (is_container v) (branch (head_of s name v (length (bytes_of inside))) inside rest)
    (leaf (head_of s name v (length (part s v.body v.end))) (part s v.body v.end) rest)

-- what a step answers, with what is in it and what comes behind it; a refusal ends the part, as its end does
abbrev pub tree_on : List ℕ → (Rules → ℕ → ℕ → Tree) → (ℕ → Tree) → Outcome Item → Tree
tree_on s inside onward (gives (finish p)) = nothing
tree_on s inside onward (gives (marker a major minor e)) = mark major minor (onward e)
tree_on s inside onward (gives (value v)) = node_of s [] v (inside (body_rules v) v.end v.body) (onward v.end)
tree_on s inside onward (gives (field id a v)) =
    node_of s (part s a v.start) v (inside (body_rules v) v.end v.body) (onward v.end)
tree_on s inside onward (refuses number position) = nothing

-- the part at..hi, of at most k bytes: those of the part are enough
unfoldable pub tree_in : ℕ → ℕ → List ℕ → Rules → ℕ → ℕ → Tree
tree_in limit zero s rules hi at = nothing
tree_in limit (suc k) s rules hi at = tree_on s (tree_in limit k s) (tree_in limit k s rules hi) (answer_at limit rules s at hi)

unfoldable pub tree_of : ℕ → List ℕ → Tree
tree_of limit s = tree_in limit (length s) s Stream (length s) 0

unfoldable pub packed : ℕ → List ℕ → List ℕ
packed limit s = bytes_of (tree_of limit s)
