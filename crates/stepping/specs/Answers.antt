-- The scope paper's "Stream item" and "Body steps": what a step on a part answers, and the pads that it passes on the way.
-- Assumes nothing.
use Rattle.std.specs.Prelude.{ℕ, zero, suc, ◌+◌, ◌-◌, Bool, false, not, List, [], ◌∷◌, get_or, ltb, eqb}
use Rattle.numbers.specs.Outcome.{Outcome, gives, refuses, pick, refuse_if, and_then, outside_of}
use Rattle.numbers.specs.Answers.{Unsigned, var_uint}
use Rattle.framing.specs.Limits.{out_of_range}
use Rattle.framing.specs.Answers.{Frame, padding, valued, read_frame}
use Rattle.stepping.specs.Items.{Item, finish, marker, value, field, item_end, Pad}
use Rattle.stepping.specs.declared.cursor.Cursor.{Cursor}
use Rattle.stepping.specs.declared.cursor.Rules.{Rules}
use Rattle.stepping.specs.declared.cursor.Rules.TheVariants.{Stream, Sequence, Fields}

-- what stands at a step's position: a pad, with its body and its end, or an item
pub data Tile : Type 0 where
  skip : ℕ → ℕ → Tile
  hand : Item → Tile

-- which markers pass, by their two numbers: "with any two numbers", and by the change request A.2 those of version 1.0 alone
abbrev pub version_passes : ℕ → ℕ → Bool
version_passes major minor = pick (eqb major 1) (eqb minor 0) false

-- "A marker is E0, major, minor, EA": 2 under four bytes, 21 without EA; then, by the change request A.2, 60 "a marker that isn't 1.0"; all at its start
unfoldable pub marker_at : List ℕ → ℕ → ℕ → Outcome Tile
marker_at s at end =
    refuse_if (ltb (end - at) 4) 2 at
    (refuse_if (not (eqb (get_or s (at + 3) 0) 234)) 21 at
    (refuse_if (not (version_passes (get_or s (at + 1) 0) (get_or s (at + 2) 0))) 60 at
    (gives (hand (marker at (get_or s (at + 1) 0) (get_or s (at + 2) 0) (at + 4))))))

abbrev pub as_tile : Frame → Outcome Tile
as_tile (padding p) = gives (skip p.body p.end)
as_tile (valued v) = gives (hand (value v))

-- a pad or a value; E0 here is refusal 22
unfoldable pub framed_at : ℕ → List ℕ → ℕ → ℕ → Outcome Tile
framed_at limit s at end = and_then (read_frame limit s at end) as_tile

abbrev pub as_field : ℕ → ℕ → Frame → Outcome Tile
as_field id at (padding p) = gives (skip p.body p.end)
as_field id at (valued v) = gives (hand (field id at v))

-- "In a struct each item and each pad follows a field ID": 7 where nothing follows it
unfoldable pub named_at : ℕ → List ℕ → ℕ → ℕ → Unsigned → Outcome Tile
named_at limit s at end u = refuse_if (eqb u.next end) 7 end (and_then (read_frame limit s u.next end) (as_field u.value at))

unfoldable pub field_at : ℕ → List ℕ → ℕ → ℕ → Outcome Tile
field_at limit s at end = and_then (var_uint s at end) (named_at limit s at end)

-- by the rules of the part: in a stream E0 begins a marker
unfoldable pub tile_at : ℕ → Rules → List ℕ → ℕ → ℕ → Outcome Tile
tile_at limit Stream s at end = pick (eqb (get_or s at 0) 224) (marker_at s at end) (framed_at limit s at end)
tile_at limit Sequence s at end = framed_at limit s at end
tile_at limit Fields s at end = field_at limit s at end

-- what a step finds: the pads that it passes, in order, and its answer
pub record Found : Type 0 where
  pub pads : List Pad
  pub answer : Outcome Item

abbrev pub passing : Pad → Found → Found
passing p f = record { pads = p ∷ f.pads; answer = f.answer }

abbrev pub stop : Outcome Item → Found
stop o = record { pads = []; answer = o }

-- past a pad the step goes on, as `go` says from there
abbrev pub on_tile : ℕ → (ℕ → Found) → Outcome Tile → Found
on_tile at go (gives (skip b e)) = passing (record { start = at; body = b; end = e }) (go e)
on_tile at go (gives (hand i)) = stop (gives i)
on_tile at go (refuses number position) = stop (refuses number position)

-- "Skip pads; then marker, value or end", from `at` on, over at most k tiles: the part's length is enough. "The end's position is the end of the part stepped."
unfoldable pub skip_pads : ℕ → ℕ → Rules → List ℕ → ℕ → ℕ → Found
skip_pads limit zero rules s end at = stop (gives (finish end))
skip_pads limit (suc k) rules s end at =
    pick (ltb at end) (on_tile at (skip_pads limit k rules s end) (tile_at limit rules s at end)) (stop (gives (finish end)))

-- 68 "a parameter outside its range", "before 50, position 0", by the change request A.9: then the step finds that alone
abbrev pub limited_found : ℕ → Found → Found
limited_found limit f = pick (out_of_range limit) (stop (refuses 68 0)) f

unfoldable pub found : ℕ → Rules → List ℕ → Cursor → Found
found limit rules s c =
    limited_found limit
    (pick (outside_of s c.at c.end) (stop (refuses 50 0)) (skip_pads limit (c.end - c.at) rules s c.end c.at))

-- "The cursor that the call before returned, which after a refusal is the one it was given": past the item, and at the part's end after the end
abbrev pub after : Cursor → Outcome Item → Cursor
after c (gives i) = record { at = item_end i; end = c.end }
after c (refuses number position) = c

-- a step's answer and the cursor that it leaves
pub record Stepped : Type 0 where
  pub answer : Outcome Item
  pub next : Cursor

unfoldable pub step_of : ℕ → Rules → List ℕ → Cursor → Stepped
step_of limit rules s c = record { answer = (found limit rules s c).answer; next = after c (found limit rules s c).answer }

-- what the step at `at` in the part that ends at hi answers
abbrev pub answer_at : ℕ → Rules → List ℕ → ℕ → ℕ → Outcome Item
answer_at limit rules s at hi = (step_of limit rules s (record { at = at; end = hi })).answer
