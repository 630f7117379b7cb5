-- What a walk meets, offsets and lengths apart: "A walk of the result meets the same items as before, offsets and lengths apart."
-- Assumes nothing.
use Rattle.std.specs.Prelude.{ℕ, suc, ◌/◌, List, [], ◌∷◌, length}
use Rattle.numbers.specs.Outcome.{Outcome, gives, refuses, pick}
use Rattle.numbers.specs.Bytes.{part}
use Rattle.framing.specs.Spans.{Spans}
use Rattle.stepping.specs.Items.{Item, finish, marker, value, field}
use Rattle.values.specs.Scalars.{is_container, type_of}
use Rattle.walking.specs.Walk.{Visit}
use Rattle.packing.specs.Tree.{Head, Tree, nothing, mark, leaf, branch}
use Rattle.packing.specs.Packed.{head_of}

-- the depth, and the end, a marker's two numbers, a scalar's or a null's head and body, a container's field ID bytes, annotation bytes and type, or a refusal
pub data Meant : Type 0 where
  an_end : ℕ → Meant
  a_marker : ℕ → ℕ → ℕ → Meant
  a_scalar : ℕ → Head → List ℕ → Meant
  a_container : ℕ → List ℕ → List ℕ → ℕ → Meant
  a_refusal : ℕ → ℕ → Meant

unfoldable pub meant_value : List ℕ → ℕ → List ℕ → Spans → Meant
meant_value s d name v =
    pick (is_container v) (a_container d name (part s v.annotations v.descriptor) (type_of v))
    (a_scalar d (head_of s name v (length (part s v.body v.end))) (part s v.body v.end))

abbrev pub meant_item : List ℕ → ℕ → Outcome Item → Meant
meant_item s d (gives (finish p)) = an_end d
meant_item s d (gives (marker a major minor e)) = a_marker d major minor
meant_item s d (gives (value v)) = meant_value s d [] v
meant_item s d (gives (field id a v)) = meant_value s d (part s a v.start) v
meant_item s d (refuses number position) = a_refusal d number

abbrev pub meant : List ℕ → Visit → Meant
meant s v = meant_item s v.depth v.answer

-- a tree from depth d on, each container before what is in it, and then `rest`
unfoldable pub preorder : ℕ → Tree → List Meant → List Meant
preorder d nothing rest = rest
preorder d (mark major minor t) rest = a_marker d major minor ∷ preorder d t rest
preorder d (leaf h body t) rest = a_scalar d h body ∷ preorder d t rest
preorder d (branch h inside t) rest = a_container d h.name h.annotations (h.byte / 16) ∷ preorder (suc d) inside (preorder d t rest)
