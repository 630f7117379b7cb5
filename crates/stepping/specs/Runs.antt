-- The scope paper's "Runs": lists of step calls on a part, what they hand out, and what it is for that to tile the part.
-- Assumes nothing.
use Rattle.std.specs.Prelude.{ℕ, ◌≡◌, Bool, true, false}
use mathlib.Core.List.{List, [], ◌∷◌, Memᴰ}
use Rattle.numbers.specs.Outcome.{Outcome, gives, refuses, pick}
use Rattle.stepping.specs.Items.{Item, finish, marker, value, field, item_end, Pad}
use Rattle.stepping.specs.Answers.{found, Stepped, step_of}
use Rattle.stepping.specs.Format.{PadAt, ItemAt}
use Rattle.stepping.specs.Meaning.{PadWithin, ItemWithin}
use Rattle.stepping.specs.declared.cursor.Cursor.{Cursor}
use Rattle.stepping.specs.declared.cursor.Rules.{Rules}

-- the cursor at `at`, of the part that ends at hi
abbrev pub cursor : ℕ → ℕ → Cursor
cursor at hi = record { at = at; end = hi }

-- "each equal to the one that the call's rules define"
abbrev pub Answers : ℕ → Rules → List ℕ → Cursor → Stepped → Type 0
Answers limit rules s c r = r ≡ step_of limit rules s c

-- "The first call gets the cursor at the part's start, each later one the cursor that the call before returned": rs are the answers to such calls from the
-- cursor c on. `Ans c r` says which answers r a call with the cursor c has: those that the rules define, or those that the program returned.
pub data Run {ℓ} (Ans : Cursor → Stepped → Type ℓ) : Cursor → List Stepped → Type ℓ where
  none : {c : Cursor} → Run Ans c []
  call : {c : Cursor} {r : Stepped} {rs : List Stepped} → Ans c r → Run Ans r.next rs → Run Ans c (r ∷ rs)

-- the items that an answer hands out: a marker, a value or a field, and nothing for the end and a refusal
abbrev pub handed_out : Outcome Item → List Item → List Item
handed_out (gives (finish p)) is = is
handed_out (gives (marker a major minor e)) is = marker a major minor e ∷ is
handed_out (gives (value v)) is = value v ∷ is
handed_out (gives (field id a v)) is = field id a v ∷ is
handed_out (refuses number position) is = is

-- the items of a run, in order
abbrev pub items : List Stepped → List Item
items [] = []
items (r ∷ rs) = handed_out r.answer (items rs)

-- "the end of the last one", which "with nothing handed out" is "the part's start"
abbrev pub last_end : ℕ → List Item → ℕ
last_end lo [] = lo
last_end lo (i ∷ is) = last_end (item_end i) is

-- a span of a run: a pad that a call skipped, or an item that it handed out
pub data Piece : Type 0 where
  skipped : Pad → Piece
  handed : Item → Piece

abbrev pub skipped_all : List Pad → List Piece → List Piece
skipped_all [] rest = rest
skipped_all (p ∷ ps) rest = skipped p ∷ skipped_all ps rest

-- the spans of a call that skips these pads and has this answer, in front of those of the calls behind it: the pads and the item; of a refusal nothing, since
-- the next call begins where this one did; of an end its pads, where the whole part is asked for
abbrev pub of_call : Bool → List Pad → Outcome Item → List Piece → List Piece
of_call to_its_end pads (gives (finish p)) rest = pick to_its_end (skipped_all pads rest) rest
of_call to_its_end pads (gives (marker a major minor e)) rest = skipped_all pads (handed (marker a major minor e) ∷ rest)
of_call to_its_end pads (gives (value v)) rest = skipped_all pads (handed (value v) ∷ rest)
of_call to_its_end pads (gives (field id a v)) rest = skipped_all pads (handed (field id a v) ∷ rest)
of_call to_its_end pads (refuses number position) rest = rest

-- the spans of a run from the cursor c on: each call skips the pads that its definition lists
abbrev pub pieces : ℕ → Bool → Rules → List ℕ → Cursor → List Stepped → List Piece
pieces limit to_its_end rules s c [] = []
pieces limit to_its_end rules s c (r ∷ rs) = of_call to_its_end (found limit rules s c).pads r.answer (pieces limit to_its_end rules s r.next rs)

-- "Tiled up to a place: the first span begins at the part's start, each next one where the one before ends, the last ends there": from a to z the bytes are
-- these spans, each of the document and within the limits. "With no span at all, the place is the part's start too."
pub data Tiles (limit : ℕ) (rules : Rules) (s : List ℕ) (hi : ℕ) : ℕ → List Piece → ℕ → Type 0 where
  empty : {a : ℕ} → Tiles limit rules s hi a [] a
  pad : {p : Pad} {z : ℕ} {ps : List Piece} (t : PadAt rules s hi p)
      → PadWithin t → Tiles limit rules s hi p.end ps z → Tiles limit rules s hi p.start (skipped p ∷ ps) z
  item : {a z : ℕ} {i : Item} {ps : List Piece} (t : ItemAt s hi rules a i)
      → ItemWithin limit t → Tiles limit rules s hi (item_end i) ps z → Tiles limit rules s hi a (handed i ∷ ps) z

-- the answers rs tile the part lo..hi: up to the end of the last item; and where a call says end, items and pads tile the whole part, and its position is
-- the part's end
pub record Tiled (limit : ℕ) (rules : Rules) (s : List ℕ) (lo hi : ℕ) (rs : List Stepped) : Type 0 where
  pub up_to_last : Tiles limit rules s hi lo (pieces limit false rules s (cursor lo hi) rs) (last_end lo (items rs))
  pub at_end : (p : ℕ) (next : Cursor) → Memᴰ (record { answer = gives (finish p); next = next }) rs
      → (p ≡ hi) × Tiles limit rules s hi lo (pieces limit true rules s (cursor lo hi) rs) hi
