-- A step in two: what the rules of a part want before a pad or a value, here its name, and what stands behind that. A caller that has read a name enters the
-- step behind it, so that no field ID is read twice. `Naming.tile-from` and `Naming.answer-from` in `proofs/` say that the two make `tile_at` and the step.
-- Assumes nothing.
use Rattle.std.specs.Prelude.{ℕ, ◌-◌, Bool, false, List, get_or, ltb, eqb}
use Rattle.numbers.specs.Outcome.{Outcome, gives, refuses, pick, refuse_if, and_then, outside_of}
use Rattle.numbers.specs.Answers.{Unsigned, var_uint}
use Rattle.framing.specs.Spans.{Spans}
use Rattle.framing.specs.Answers.{Frame, padding, valued, read_frame}
use Rattle.stepping.specs.Items.{Item, finish, value, field}
use Rattle.stepping.specs.Answers.{Tile, skip, hand, marker_at, Found, stop, on_tile, skip_pads, limited_found}
use Rattle.stepping.specs.declared.cursor.Rules.{Rules}
use Rattle.stepping.specs.declared.cursor.Rules.TheVariants.{Stream, Sequence, Fields}

-- 7 "field ID with nothing after it, there"
unfoldable pub followed : ℕ → Unsigned → Outcome Unsigned
followed end u = refuse_if (eqb u.next end) 7 end (gives u)

unfoldable pub field_id : List ℕ → ℕ → ℕ → Outcome Unsigned
field_id s at end = and_then (var_uint s at end) (followed end)

-- "In a struct each item and each pad follows a field ID": its value, and where it ends; elsewhere a name is empty, and its value 0
abbrev pub name_at : Rules → List ℕ → ℕ → ℕ → Outcome Unsigned
name_at Stream s at end = gives (record { value = 0; next = at })
name_at Sequence s at end = gives (record { value = 0; next = at })
name_at Fields s at end = field_id s at end

-- the name at `at`, which is u where u ends behind `at`: then it was read before
unfoldable pub name_from : Rules → List ℕ → ℕ → ℕ → Unsigned → Outcome Unsigned
name_from rules s at end u = pick (ltb at u.next) (gives u) (name_at rules s at end)

-- the item that a value behind a name is
abbrev pub item_by : Rules → ℕ → ℕ → Spans → Item
item_by Stream at id v = value v
item_by Sequence at id v = value v
item_by Fields at id v = field id at v

abbrev pub tile_by : Rules → ℕ → ℕ → Frame → Outcome Tile
tile_by rules at id (padding p) = gives (skip p.body p.end)
tile_by rules at id (valued v) = gives (hand (item_by rules at id v))

-- what stands behind the name u of what begins at `at`
unfoldable pub tile_behind : ℕ → Rules → List ℕ → ℕ → ℕ → Unsigned → Outcome Tile
tile_behind limit rules s at end u = and_then (read_frame limit s u.next end) (tile_by rules at u.value)

-- a byte that begins a marker: only in a stream
abbrev pub is_marker : Rules → ℕ → Bool
is_marker Stream byte = eqb byte 224
is_marker Sequence byte = false
is_marker Fields byte = false

unfoldable pub tile_from : ℕ → Rules → List ℕ → ℕ → ℕ → Unsigned → Outcome Tile
tile_from limit rules s at end u =
    pick (is_marker rules (get_or s at 0)) (marker_at s at end)
    (and_then (name_from rules s at end u) (tile_behind limit rules s at end))

-- the step at `at`, whose name may be read: past a pad it goes on as a step there does
unfoldable pub found_from : ℕ → Rules → List ℕ → ℕ → ℕ → Unsigned → Found
found_from limit rules s at end u =
    limited_found limit
    (pick (outside_of s at end) (stop (refuses 50 0))
    (pick (ltb at end) (on_tile at (skip_pads limit (end - at) rules s end) (tile_from limit rules s at end u)) (stop (gives (finish end)))))

abbrev pub answer_from : ℕ → Rules → List ℕ → ℕ → ℕ → Unsigned → Outcome Item
answer_from limit rules s at end u = (found_from limit rules s at end u).answer
