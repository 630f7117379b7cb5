-- What holds of a whole check. The proofs: `checks-walk`, `accepted-walk` and `refused-walk` of proofs/Walked.antt, `counts-held` of proofs/Holding.antt.
-- Assumes nothing.
use Rattle.std.specs.Prelude.{ℕ, ◌<◌, ◌≡◌, length, get_or}
use mathlib.Core.List.{List, Memᴰ}
use Rattle.numbers.specs.Outcome.{Outcome, gives, refuses, and_then}
use Rattle.stepping.specs.declared.cursor.Rules.TheVariants.{Stream}
use Rattle.walking.specs.Walk.{visit, whole_walk}
use Rattle.checking.specs.Check.{whole_check}
use Rattle.checking.specs.WalkRead.{read_visits, items_of}
use Rattle.checking.specs.Held.{Held}

-- the count in the place i
abbrev pub count_at : ℕ → List ℕ → Outcome ℕ
count_at i c = gives (get_or c i 0)

-- Of every two limits and every map: the check is the walk, its items read in order: the first refusal that this meets, or as many items in each place. The
-- fifteen places and that of the pads, which a walk does not meet, are numbers here and no names.
abbrev pub ChecksWalk : Type 0
ChecksWalk =
    (limit deepest : ℕ) (s : List ℕ) (i : ℕ) → i < 15 → (i ≡ 1 → ⊥)
    → and_then (whole_check limit deepest s) (count_at i) ≡ read_visits i s (whole_walk limit deepest s) 0

-- "A walk of an accepted map must meet the same items as the counts say": it is not refused, and has as many markers and values of each type.
pub record Meets (limit deepest : ℕ) (s c : List ℕ) : Type 0 where
  pub unrefused : (d number position : ℕ) → Memᴰ (visit d (refuses number position)) (whole_walk limit deepest s) → ⊥
  pub counted : (i : ℕ) → i < 15 → (i ≡ 1 → ⊥) → get_or c i 0 ≡ items_of i (whole_walk limit deepest s)

abbrev pub AcceptedWalk : Type 0
AcceptedWalk = (limit deepest : ℕ) (s c : List ℕ) → whole_check limit deepest s ≡ gives c → Meets limit deepest s c

-- Where the walk is refused, so is the check: with the walk's refusal or with one of a reading before it.
abbrev pub RefusedWalk : Type 0
RefusedWalk =
    (limit deepest : ℕ) (s : List ℕ) (d number position : ℕ) → Memᴰ (visit d (refuses number position)) (whole_walk limit deepest s)
    → (n : ℕ) × (p : ℕ) × (whole_check limit deepest s ≡ refuses n p)

-- The check's refusal is the first one that reading the walk's items in order meets.
abbrev pub FirstRefusal : Type 0
FirstRefusal =
    (limit deepest : ℕ) (s : List ℕ) (number position : ℕ)
    → whole_check limit deepest s ≡ refuses number position → read_visits 0 s (whole_walk limit deepest s) 0 ≡ refuses number position

-- Each count, that of the pads too, is of what the map holds by its bytes, at every depth.
abbrev pub CountsHeld : Type 0
CountsHeld =
    (limit deepest : ℕ) (s c : List ℕ) → whole_check limit deepest s ≡ gives c
    → (i : ℕ) → i < 15 → Held limit s i Stream (length s) 0 (get_or c i 0)
