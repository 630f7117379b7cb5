-- Bounded steps called one after the other: until the answer is the step's, and in runs of any length, whose spans tile the part.
-- Assumes nothing.
use Rattle.std.specs.Prelude.{ℕ, suc, ◌+◌, ◌-◌, ◌*◌, ◌/◌, ◌≤◌, ◌<◌, ◌≡◌, true, length, get_or, take}
use mathlib.Core.List.{List, [], ◌∷◌, Memᴰ}
use Rattle.numbers.specs.Outcome.{gives, refuses, pick}
use Rattle.stepping.specs.Items.{Item, finish, Pad}
use Rattle.stepping.specs.Answers.{tile_at, found, step_of}
use Rattle.stepping.specs.Format.{NameBytes}
use Rattle.stepping.specs.Runs.{cursor, Piece, skipped_all, of_call, Tiles}
use Rattle.stepping.specs.declared.cursor.Cursor.{Cursor}
use Rattle.stepping.specs.declared.cursor.Rules.{Rules}
use Rattle.counting.specs.Counted.{counted}
use Rattle.counting.specs.Bounded.{Bounded, reached, more, behind_pads, pad_next, bounded, bounded_after, BoundedStepped, bounded_step_of}

-- ---- a pad's descriptor by its bytes

-- behind the place p stands the descriptor of a pad, a byte below 0F, in a struct after a field ID of at most nine bytes
pub record PadComes (rules : Rules) (s : List ℕ) (hi p : ℕ) : Type 0 where
  pub after : ℕ
  pub name : NameBytes s hi rules p after
  pub short : after ≤ p + 9
  pub before : after < hi
  pub within : hi ≤ length s
  pub descriptor : get_or s after 0 < 15

-- ---- until the answer is the step's

-- n calls in a row that answer kind 4, from the cursor c on, each with the cursor that the call before left; the last leaves the cursor c'
pub data Repeats (limit most : ℕ) (rules : Rules) (s : List ℕ) : Cursor → ℕ → Cursor → Type 0 where
  none : {c : Cursor} → Repeats limit most rules s c 0 c
  again : {c c' : Cursor} {n p : ℕ}
      → bounded limit most rules s c ≡ more most p → Repeats limit most rules s (bounded_after c (more most p)) n c' → Repeats limit most rules s c (suc n) c'

-- how many pads' descriptors the step meets: those of the pads that it passes, and one more where it is refused behind one
unfoldable pub pads_met : ℕ → Rules → List ℕ → Cursor → ℕ
pads_met limit rules s c =
    length (found limit rules s c).pads
    + pick (pad_next rules s (behind_pads (length (found limit rules s c).pads) c.at (found limit rules s c).pads) c.end) 1 0

-- how many answers of kind 4 come before the step's answer: one for each full number of pads behind which another pad's descriptor is met
abbrev pub repetitions : ℕ → ℕ → Rules → List ℕ → Cursor → ℕ
repetitions limit most rules s c = (pads_met limit rules s c - 1) / most

-- From the cursor c on that many calls answer kind 4, and the next one, with the cursor `last`, answers what the step with the cursor c does. All pads that
-- this step passes are passed by them. Where it gives an item or the end, the cursor is the step's; where it refuses, it is `last`, further on.
pub record Reaches (limit most : ℕ) (rules : Rules) (s : List ℕ) (c : Cursor) : Type 0 where
  pub last : Cursor
  pub repeats : Repeats limit most rules s c (repetitions limit most rules s c) last
  pub further : (c.at ≤ last.at) × (last.end ≡ c.end)
  pub answer : bounded limit most rules s last ≡ reached (counted limit rules s last)
  pub same : (counted limit rules s last).answer ≡ (step_of limit rules s c).answer
  pub passed : repetitions limit most rules s c * most + (counted limit rules s last).pads ≡ (counted limit rules s c).pads
  pub given : (i : Item) → (step_of limit rules s c).answer ≡ gives i → (bounded_step_of limit most rules s last).next ≡ (step_of limit rules s c).next
  pub refused : (number position : ℕ) → (step_of limit rules s c).answer ≡ refuses number position → (bounded_step_of limit most rules s last).next ≡ last

-- ---- runs

-- the answers rs to bounded calls from the cursor c on, each with a largest number of its own and with the cursor that the call before left
pub data BoundedRun (limit : ℕ) (rules : Rules) (s : List ℕ) : Cursor → List BoundedStepped → Type 0 where
  none : {c : Cursor} → BoundedRun limit rules s c []
  call : {c : Cursor} {r : BoundedStepped} {rs : List BoundedStepped} (most : ℕ)
      → r ≡ bounded_step_of limit most rules s c → BoundedRun limit rules s r.next rs → BoundedRun limit rules s c (r ∷ rs)

-- the spans of a call of a step that passes these pads, in front of those of the calls behind it: the pads that it passed and its item; of kind 4 the pads
-- passed alone, of an end its pads, of a refusal nothing
abbrev pub of_bounded : List Pad → Bounded → List Piece → List Piece
of_bounded pads (reached r) rest = of_call true pads r.answer rest
of_bounded pads (more n p) rest = skipped_all (take n pads) rest

abbrev pub bounded_pieces : ℕ → Rules → List ℕ → Cursor → List BoundedStepped → List Piece
bounded_pieces limit rules s c [] = []
bounded_pieces limit rules s c (r ∷ rs) = of_bounded (found limit rules s c).pads r.answer (bounded_pieces limit rules s r.next rs)

-- the cursor that the last call leaves
abbrev pub left_by : Cursor → List BoundedStepped → Cursor
left_by c [] = c
left_by c (r ∷ rs) = left_by r.next rs

-- the answers rs tile the part lo..hi up to the cursor that is left, of every call's pads and items; and where a call reached the end, that is the part's
pub record BoundedTiled (limit : ℕ) (rules : Rules) (s : List ℕ) (lo hi : ℕ) (rs : List BoundedStepped) : Type 0 where
  pub up_to_cursor : Tiles limit rules s hi lo (bounded_pieces limit rules s (cursor lo hi) rs) (left_by (cursor lo hi) rs).at
  pub at_end : (p pads names : ℕ) (next : Cursor)
      → Memᴰ (record { answer = reached (record { answer = gives (finish p); pads = pads; names = names }); next = next }) rs
      → (p ≡ hi) × ((left_by (cursor lo hi) rs).at ≡ hi)

-- ---- the work of a call

-- the same stands at a place of two slices: the same tile, and a pad's descriptor next in both or in neither
abbrev pub SameThere : ℕ → Rules → List ℕ → List ℕ → ℕ → ℕ → Type 0
SameThere limit rules s t hi p = (tile_at limit rules t p hi ≡ tile_at limit rules s p hi) × (pad_next rules t p hi ≡ pad_next rules s p hi)

-- These places are all that a call looks at: on another slice of the same length where the same stands at each of them it answers the same.
pub record Looks (limit most : ℕ) (rules : Rules) (s : List ℕ) (c : Cursor) (places : List ℕ) : Type 0 where
  pub few : length places ≤ most + 1
  pub enough : (t : List ℕ) → length t ≡ length s
      → ((p : ℕ) → Memᴰ p places → SameThere limit rules s t c.end p)
      → bounded limit most rules t c ≡ bounded limit most rules s c
