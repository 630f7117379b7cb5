-- The scope paper's "Runs", what calls reach: the parts, the values and the bodies; and what it is for two maps to give the same answers outside a body.
-- Assumes nothing.
use Rattle.std.specs.Prelude.{ℕ, ◌≤◌, ◌<◌, ◌≡◌, true, ◌⊎◌, length, get_or}
use mathlib.Core.List.{List, [], ◌∷◌, Memᴰ}
use Rattle.numbers.specs.Outcome.{Outcome, gives, refuses}
use Rattle.framing.specs.Spans.{Spans}
use Rattle.framing.specs.Answers.{Annotated, ident, finished, read_annotation}
use Rattle.stepping.specs.Items.{Item, finish, marker, value, field, item_end, Pad}
use Rattle.stepping.specs.Answers.{found, Stepped}
use Rattle.stepping.specs.Runs.{cursor, Answers, Run, items}
use Rattle.stepping.specs.declared.cursor.Cursor.{Cursor}
use Rattle.stepping.specs.declared.cursor.Rules.{Rules}
use Rattle.stepping.specs.declared.cursor.Rules.TheVariants.{Stream}
use Rattle.values.specs.Scalars.{is_container, body_rules, Opened, step_in, Scalar, read_scalar, scalar_part}

-- the value of an item, in a stream or a sequence and in a struct
pub data ValueOf : Item → Spans → Type 0 where
  a_value : {v : Spans} → ValueOf (value v) v
  a_field : {id a : ℕ} {v : Spans} → ValueOf (field id a v) v

-- where an item's span starts: "a value its field ID in a struct, its wrapper if any, and itself"
abbrev pub item_start : Item → ℕ
item_start (finish p) = p
item_start (marker a major minor e) = a
item_start (value v) = v.start
item_start (field id a v) = a

-- "Reached are the stream, [what] a run on a reached part hands out, the bodies of the non-null containers among them": the reached parts with their rules.
-- `step rules c r` says which answers r a step of these rules with the cursor c has.
pub data Part {ℓ} (step : Rules → Cursor → Stepped → Type ℓ) (lo₀ hi₀ : ℕ) : Rules → ℕ → ℕ → Type ℓ where
  the_stream : Part step lo₀ hi₀ Stream lo₀ hi₀
  inner : {rules : Rules} {lo hi : ℕ} {rs : List Stepped} {i : Item} {v : Spans}
      → Part step lo₀ hi₀ rules lo hi → Run (step rules) (cursor lo hi) rs → Memᴰ i (items rs) → ValueOf i v → is_container v ≡ true
      → Part step lo₀ hi₀ (body_rules v) v.body v.end

-- an item that a run on the reached part lo..hi hands out
pub record Handed {ℓ} (step : Rules → Cursor → Stepped → Type ℓ) (lo₀ hi₀ : ℕ) (rules : Rules) (lo hi : ℕ) (i : Item) : Type ℓ where
  pub part : Part step lo₀ hi₀ rules lo hi
  pub calls : List Stepped
  pub run : Run (step rules) (cursor lo hi) calls
  pub among : Memᴰ i (items calls)

-- the cursor that calls leave
abbrev pub left : Cursor → List Stepped → Cursor
left c [] = c
left c (r ∷ rs) = left r.next rs

-- the pads that a call after the calls rs on the part lo..hi skips
abbrev pub pads_after : ℕ → Rules → List ℕ → ℕ → ℕ → List Stepped → List Pad
pads_after limit rules s lo hi rs = (found limit rules s (left (cursor lo hi) rs)).pads

-- the reached bodies b..e of the map s: of each value handed out, and of each pad that a call after a run skips, "also where the step then refuses or ends"
pub data ReachedBody {ℓ} (limit : ℕ) (s : List ℕ) (step : Rules → Cursor → Stepped → Type ℓ) (lo₀ hi₀ : ℕ) : ℕ → ℕ → Type ℓ where
  of_value : {rules : Rules} {lo hi : ℕ} {i : Item} {v : Spans}
      → Handed step lo₀ hi₀ rules lo hi i → ValueOf i v → ReachedBody limit s step lo₀ hi₀ v.body v.end
  of_pad : {rules : Rules} {lo hi : ℕ} {rs : List Stepped} {p : Pad}
      → Part step lo₀ hi₀ rules lo hi → Run (step rules) (cursor lo hi) rs → Memᴰ p (pads_after limit rules s lo hi rs)
      → ReachedBody limit s step lo₀ hi₀ p.body p.end

-- two statements that hold together
abbrev pub Iff : Type 0 → Type 0 → Type 0
Iff A B = (A → B) × (B → A)

-- the position i is in b..e
abbrev pub In : ℕ → ℕ → ℕ → Type 0
In b e i = (b ≤ i) × (i < e)

-- two maps of one length with the same bytes outside a set of positions
pub record Agree (s s' : List ℕ) (Changed : ℕ → Type 0) : Type 0 where
  pub long : length s ≡ length s'
  pub same : (i : ℕ) → (Changed i → ⊥) → get_or s i 0 ≡ get_or s' i 0

-- "A part is outside a body if it neither is that body nor lies in it"
abbrev pub Outside : ℕ → ℕ → ℕ → ℕ → Type 0
Outside b e lo hi = (b ≤ lo) × (hi ≤ e) → ⊥

-- "a value, if it neither owns the body nor lies in it"
abbrev pub NotOwner : ℕ → ℕ → Spans → Type 0
NotOwner b e v = (v.body ≡ b) × (v.end ≡ e) → ⊥

-- "the position of the value's wrapper or descriptor"
abbrev pub EntryAt : Spans → ℕ → Type 0
EntryAt v at = (at ≡ v.start) ⊎ (at ≡ v.descriptor)

-- "Annotation steps run likewise from the start of a reached value's annotation bytes": the position that a step leaves is past its ID, and the one it was
-- given after the end and after a refusal
abbrev pub next_annotation : ℕ → Outcome Annotated → ℕ
next_annotation at (gives (ident id next)) = next
next_annotation at (gives finished) = at
next_annotation at (refuses number position) = at

pub data AnnotationRun {ℓ} (step : ℕ → Outcome Annotated → Type ℓ) : ℕ → List (Outcome Annotated) → Type ℓ where
  none : {at : ℕ} → AnnotationRun step at []
  call : {at : ℕ} {r : Outcome Annotated} {rs : List (Outcome Annotated)}
      → step at r → AnnotationRun step (next_annotation at r) rs → AnnotationRun step at (r ∷ rs)

-- a map, the limit of annotation bytes that its calls are given, and the answers that its six entries have: the steps of the three rules with a cursor; the
-- annotation step at a position of bytes that end at `end`; stepping in, the scalar reading and the bytes of its part, in the part lo..hi at a position
pub record Entries {ℓ} : Type (ℓ + 1) where
  pub map : List ℕ
  pub limit : ℕ
  pub step : Rules → Cursor → Stepped → Type ℓ
  pub annotation : ℕ → ℕ → Outcome Annotated → Type ℓ
  pub entering : ℕ → ℕ → ℕ → Outcome Opened → Type ℓ
  pub reading : ℕ → ℕ → ℕ → Outcome Scalar → Type ℓ
  pub bytes : ℕ → ℕ → ℕ → List ℕ → Type ℓ

-- the map s with the answers that the rules define
abbrev pub ByRules : ℕ → List ℕ → Entries {0}
ByRules limit s =
    record {
      map = s;
      limit = limit;
      step = λ rules. Answers limit rules s;
      annotation = λ end at r. r ≡ read_annotation s at end;
      entering = λ lo hi at r. r ≡ step_in limit s lo hi at;
      reading = λ lo hi at r. r ≡ read_scalar limit s lo hi at;
      bytes = λ lo hi at r. r ≡ scalar_part limit s lo hi at;
    }

-- Two maps E and E' with the stream lo₀..hi₀.
module _ {ℓ} (E E' : Entries {ℓ}) (lo₀ hi₀ : ℕ) where
  -- a part that is reached in either map
  abbrev pub EitherPart : Rules → ℕ → ℕ → Type ℓ
  EitherPart rules lo hi = Part E.step lo₀ hi₀ rules lo hi ⊎ Part E'.step lo₀ hi₀ rules lo hi

  -- a value that is handed out in either, with the item that it is, where that lies outside
  pub record HandedOutside (Out : ℕ → ℕ → Type 0) (rules : Rules) (lo hi : ℕ) (v : Spans) : Type ℓ where
    pub item : Item
    pub handed : Handed E.step lo₀ hi₀ rules lo hi item ⊎ Handed E'.step lo₀ hi₀ rules lo hi item
    pub is : ValueOf item v
    pub outside : Out (item_start item) (item_end item)

  -- "Both maps get the same calls, with the same arguments beside map and cursor": as many step calls, from the start of the part lo..hi on
  pub record Calls (rules : Rules) (lo hi : ℕ) (rs rs' : List Stepped) : Type ℓ where
    pub many : length rs ≡ length rs'
    pub run : Run (E.step rules) (cursor lo hi) rs
    pub run' : Run (E'.step rules) (cursor lo hi) rs'

  -- and a body b..e
  module _ (b e : ℕ) where
    abbrev pub EitherValue : Rules → ℕ → ℕ → Spans → Type ℓ
    EitherValue = HandedOutside (Outside b e)

    -- The same answers outside the body: to step calls on a part that "neither is that body nor lies in it", with the pads that the next call skips; to
    -- annotation steps on a value that does not lie in the body, "the owner's included"; to stepping in likewise, "the owner counts as outside"; to the scalar
    -- reading, with the bytes of its part, of a value that "neither owns the body nor lies in it". And what was overwritten keeps its span: in both maps its
    -- owner is handed out by as many calls, and so is a pad skipped.
    pub record SameAnswers : Type ℓ where
      pub steps : (rules : Rules) (lo hi : ℕ) → EitherPart rules lo hi → Outside b e lo hi
          → (rs rs' : List Stepped) → Calls rules lo hi rs rs' → rs ≡ rs'
      pub pads : (rules : Rules) (lo hi : ℕ) → EitherPart rules lo hi → Outside b e lo hi
          → (rs rs' : List Stepped) → Calls rules lo hi rs rs'
          → pads_after E.limit rules E.map lo hi rs ≡ pads_after E'.limit rules E'.map lo hi rs'
      pub annotations : (rules : Rules) (lo hi : ℕ) (v : Spans) → EitherValue rules lo hi v → (rs rs' : List (Outcome Annotated)) → length rs ≡ length rs'
          → AnnotationRun (E.annotation v.descriptor) v.annotations rs → AnnotationRun (E'.annotation v.descriptor) v.annotations rs'
          → rs ≡ rs'
      pub enterings : (rules : Rules) (lo hi : ℕ) (v : Spans) → EitherValue rules lo hi v → (at : ℕ) → EntryAt v at
          → (r r' : Outcome Opened) → E.entering lo hi at r → E'.entering lo hi at r' → r ≡ r'
      pub readings : (rules : Rules) (lo hi : ℕ) (v : Spans) → EitherValue rules lo hi v → NotOwner b e v → (at : ℕ) → EntryAt v at
          → (r r' : Outcome Scalar) → E.reading lo hi at r → E'.reading lo hi at r' → r ≡ r'
      pub parts : (rules : Rules) (lo hi : ℕ) (v : Spans) → EitherValue rules lo hi v → NotOwner b e v → (at : ℕ) → EntryAt v at
          → (r r' : List ℕ) → E.bytes lo hi at r → E'.bytes lo hi at r' → r ≡ r'
      pub owner : (rules : Rules) (lo hi : ℕ) → EitherPart rules lo hi → (i : Item) (v : Spans) → ValueOf i v → v.body ≡ b → v.end ≡ e
          → (rs rs' : List Stepped) → Calls rules lo hi rs rs' → Iff (Memᴰ i (items rs)) (Memᴰ i (items rs'))
      pub pad : (rules : Rules) (lo hi : ℕ) → EitherPart rules lo hi → (p : Pad) → p.body ≡ b → p.end ≡ e
          → (rs rs' : List Stepped) → Calls rules lo hi rs rs'
          → Iff (Memᴰ p (pads_after E.limit rules E.map lo hi rs)) (Memᴰ p (pads_after E'.limit rules E'.map lo hi rs'))
