-- What an accepted map gives whoever reads it on: of what calls reach, none answers with a refusal. The proof: `baking` of proofs/Baking.antt.
-- Assumes nothing.
use Rattle.std.specs.Prelude.{ℕ, ◌≡◌, true, length}
use mathlib.Core.List.{List, Memᴰ}
use Rattle.numbers.specs.Outcome.{Outcome, gives}
use Rattle.framing.specs.Spans.{Spans}
use Rattle.framing.specs.Answers.{Annotated, read_annotation}
use Rattle.bodies.specs.Decimal.{decimal as split_decimal}
use Rattle.timestamps.specs.Timestamp.{timestamp as read_stamp}
use Rattle.stepping.specs.Items.{Item}
use Rattle.stepping.specs.Answers.{Stepped}
use Rattle.stepping.specs.Runs.{cursor, Answers, Run}
use Rattle.stepping.specs.declared.cursor.Cursor.{Cursor}
use Rattle.stepping.specs.declared.cursor.Rules.{Rules}
use Rattle.values.specs.Scalars.{is_container, step_in, decimal, timestamp, read_scalar}
use Rattle.runs.specs.Reached.{ValueOf, Part, Handed, EntryAt, AnnotationRun}
use Rattle.checking.specs.Check.{whole_check}

-- an answer that is no refusal
abbrev pub Given : {A : Type 0} → Outcome A → Type 0
Given {A} o = (a : A) × (o ≡ gives a)

-- the answers that the rules define
abbrev pub ByRules : ℕ → List ℕ → Rules → Cursor → Stepped → Type 0
ByRules limit s rules = Answers limit rules s

-- a value that is handed out by calls on a reached part lo..hi of the map
pub record Reached (limit : ℕ) (s : List ℕ) (lo hi : ℕ) (v : Spans) : Type 0 where
  pub rules : Rules
  pub item : Item
  pub handed : Handed (ByRules limit s) 0 (length s) rules lo hi item
  pub is : ValueOf item v

-- every step call on a reached part, however many there are; stepping into every container that is reached; every annotation step; every scalar reading, and
-- the readings of decimals and timestamps
pub record Unrefused (limit : ℕ) (s : List ℕ) : Type 0 where
  pub steps : (rules : Rules) (lo hi : ℕ) → Part (ByRules limit s) 0 (length s) rules lo hi
      → (rs : List Stepped) → Run (Answers limit rules s) (cursor lo hi) rs → (r : Stepped) → Memᴰ r rs → Given r.answer
  pub enterings : (lo hi : ℕ) (v : Spans) → Reached limit s lo hi v → is_container v ≡ true → (at : ℕ) → EntryAt v at → Given (step_in limit s lo hi at)
  pub annotations : (lo hi : ℕ) (v : Spans) → Reached limit s lo hi v → (rs : List (Outcome Annotated))
      → AnnotationRun (λ at r. r ≡ read_annotation s at v.descriptor) v.annotations rs → (r : Outcome Annotated) → Memᴰ r rs → Given r
  pub readings : (lo hi : ℕ) (v : Spans) → Reached limit s lo hi v → (at : ℕ) → EntryAt v at → Given (read_scalar limit s lo hi at)
  pub decimals : (lo hi : ℕ) (v : Spans) → Reached limit s lo hi v → (at : ℕ) → EntryAt v at
      → (a b : ℕ) → read_scalar limit s lo hi at ≡ gives (decimal a b) → Given (split_decimal s a b)
  pub timestamps : (lo hi : ℕ) (v : Spans) → Reached limit s lo hi v → (at : ℕ) → EntryAt v at
      → (a b : ℕ) → read_scalar limit s lo hi at ≡ gives (timestamp a b) → Given (read_stamp v.descriptor s a b)

-- of every two limits: no reached part is deeper than the check goes, since a container at that depth is refused
abbrev pub Baking : Type 0
Baking = (limit deepest : ℕ) (s c : List ℕ) → whole_check limit deepest s ≡ gives c → Unrefused limit s
