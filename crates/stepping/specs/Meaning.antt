-- What a step finds, by the bytes, in both directions: the pads that it skips and what stands behind them are of the Ion document and within the limits, what
-- it refuses is refused at that place, and such pads and items are what it finds. The theorems are proved in proofs/Soundness.antt and
-- proofs/Completeness.antt.
-- Assumes nothing.
use Rattle.std.specs.Prelude.{ℕ, ◌+◌, ◌≤◌, ◌<◌, ◌≡◌, true, ◌⊎◌, List, [], ◌∷◌, length}
use Rattle.numbers.specs.Outcome.{Outcome, gives, refuses}
use Rattle.framing.specs.Meaning.{Within}
use Rattle.stepping.specs.Items.{Item, finish, Pad}
use Rattle.stepping.specs.Answers.{tile_at, limited_found, found, step_of}
use Rattle.stepping.specs.Format.{PadAt, ItemAt, marker-at, value_in_stream, value_in_sequence, field-at}
use Rattle.stepping.specs.Leaving.{is_last}
use Rattle.stepping.specs.declared.cursor.Cursor.{Cursor}
use Rattle.stepping.specs.declared.cursor.Rules.{Rules}

-- the limits: a field ID and a length field of at most nine bytes, and those of a value
abbrev pub PadWithin : {rules : Rules} {s : List ℕ} {hi : ℕ} {p : Pad} → PadAt rules s hi p → Type 0
PadWithin {p = p} t = (t.after ≤ p.start + 9) × (p.body ≤ t.after + 1 + 9)

abbrev pub ItemWithin : (limit : ℕ) {s : List ℕ} {hi : ℕ} {rules : Rules} {a : ℕ} {i : Item} → ItemAt s hi rules a i → Type 0
ItemWithin limit (marker-at e0 major minor ea fits within) = Unit {0}
ItemWithin limit (value_in_stream b) = Within limit b
ItemWithin limit (value_in_sequence b) = Within limit b
ItemWithin limit (field-at {a} {n} id b) = (n ≤ a + 9) × Within limit b

-- "A skipped pad is what Pad frames, in a struct after a field ID, at a step's cursor or where the pad skipped before it ends": these pads, from the place a
-- to z
pub data Skips (rules : Rules) (s : List ℕ) (hi : ℕ) : ℕ → List Pad → ℕ → Type 0 where
  arrived : {a : ℕ} → Skips rules s hi a [] a
  passed : {p : Pad} {ps : List Pad} {z : ℕ} (t : PadAt rules s hi p)
      → PadWithin t → Skips rules s hi p.end ps z → Skips rules s hi p.start (p ∷ ps) z

-- what is found at z: the part's end, an item, what is refused there, that there is no such part, or that there is no such limit. The two numbers of the
-- limit's range are numbers here and no names.
pub data Stands (limit : ℕ) (rules : Rules) (s : List ℕ) (hi z : ℕ) : Outcome Item → Type 0 where
  the_end : z ≡ hi → Stands limit rules s hi z (gives (finish hi))
  the_item : {i : Item} (t : ItemAt s hi rules z i) → ItemWithin limit t → Stands limit rules s hi z (gives i)
  refused_there : {number position : ℕ} → z < hi → hi ≤ length s → tile_at limit rules s z hi ≡ refuses number position
      → Stands limit rules s hi z (refuses number position)
  no_part : (hi < z) ⊎ (length s < hi) → Stands limit rules s hi z (refuses 50 0)
  no_limit : (limit < 255) ⊎ (65535 < limit) → Stands limit rules s hi z (refuses 68 0)

-- Soundness: a step skips such pads, one after the other from its cursor on, up to the place of its item, its end or its refusal.
abbrev pub StepsSound : Type 0
StepsSound =
    (limit : ℕ) (rules : Rules) (s : List ℕ) (c : Cursor)
    → (z : ℕ) × Skips rules s c.end c.at (found limit rules s c).pads z × Stands limit rules s c.end z (found limit rules s c).answer

-- Completeness: such pads and then such an item are what a step finds, those pads and that item; and such pads up to the part's end are what an end finds.
-- With a limit that is none it finds 68 instead.
pub record StepComplete (limit : ℕ) (rules : Rules) (s : List ℕ) (c : Cursor) (ps : List Pad) (z : ℕ) : Type 0 where
  pub item : (i : Item) (t : ItemAt s c.end rules z i)
      → ItemWithin limit t → found limit rules s c ≡ limited_found limit (record { pads = ps; answer = gives i })
  pub end : z ≡ c.end → c.end ≤ length s → found limit rules s c ≡ limited_found limit (record { pads = ps; answer = gives (finish c.end) })

abbrev pub StepsComplete : Type 0
StepsComplete =
    (limit : ℕ) (rules : Rules) (s : List ℕ) (c : Cursor) (ps : List Pad) (z : ℕ)
    → Skips rules s c.end c.at ps z → StepComplete limit rules s c ps z

-- "End and refusal repeat at each further call with the cursor they leave and otherwise the same arguments."
abbrev pub StepsRepeat : Type 0
StepsRepeat =
    (limit : ℕ) (rules : Rules) (s : List ℕ) (c : Cursor)
    → is_last (step_of limit rules s c).answer ≡ true → step_of limit rules s (step_of limit rules s c).next ≡ step_of limit rules s c

-- "After a refusal [the cursor] is the one it was given": also where pads were skipped.
abbrev pub RefusalsKeep : Type 0
RefusalsKeep =
    (limit : ℕ) (rules : Rules) (s : List ℕ) (c : Cursor) (number position : ℕ)
    → (step_of limit rules s c).answer ≡ refuses number position → (step_of limit rules s c).next ≡ c
