-- What holds of bounded steps. The proofs: proofs/Repeating.antt, proofs/BoundedTiling.antt, proofs/Looking.antt and proofs/MoreMeant.antt.
-- Assumes nothing.
use Rattle.std.specs.Prelude.{ℕ, ◌<◌, ◌≡◌, false, ◌⊎◌, List, length}
use Rattle.framing.specs.Limits.{out_of_range}
use Rattle.stepping.specs.Items.{Pad}
use Rattle.stepping.specs.Meaning.{Skips}
use Rattle.stepping.specs.Runs.{cursor}
use Rattle.stepping.specs.declared.cursor.Cursor.{Cursor}
use Rattle.stepping.specs.declared.cursor.Rules.{Rules}
use Rattle.counting.specs.Counted.{counted}
use Rattle.counting.specs.Bounded.{reached, more, bounded, BoundedStepped}
use Rattle.counting.specs.BoundedRuns.{PadComes, Reaches, BoundedRun, BoundedTiled, Looks}

-- "It answers kind 4 exactly when that many pads were passed and another pad's descriptor comes next": where it does so, as many pads of the document lead to
-- the new position, and behind it comes a pad's descriptor.
abbrev pub MoreSound : Type 0
MoreSound =
    (limit most : ℕ) (rules : Rules) (s : List ℕ) (c : Cursor) (n p : ℕ) → bounded limit most rules s c ≡ more n p
    → (n ≡ most) × ((ps : List Pad) × (length ps ≡ most) × Skips rules s c.end c.at ps p × PadComes rules s c.end p)

-- And back: behind so many pads of the document a pad's descriptor is answered with kind 4; every other answer is the step's.
abbrev pub MoreComplete : Type 0
MoreComplete =
    (limit : ℕ) (rules : Rules) (s : List ℕ) (c : Cursor) (ps : List Pad) (p : ℕ)
    → out_of_range limit ≡ false → 0 < length ps → Skips rules s c.end c.at ps p → PadComes rules s c.end p
    → bounded limit (length ps) rules s c ≡ more (length ps) p

abbrev pub ElseTheStep : Type 0
ElseTheStep =
    (limit most : ℕ) (rules : Rules) (s : List ℕ) (c : Cursor) → 0 < most
    → (bounded limit most rules s c ≡ reached (counted limit rules s c)) ⊎ ((p : ℕ) × (bounded limit most rules s c ≡ more most p))

-- "Repeating the bounded step reaches the item, end or refusal that the plain step gives; only a refusal's cursor may lie further on."
abbrev pub Repeating : Type 0
Repeating = (limit most : ℕ) (rules : Rules) (s : List ℕ) (c : Cursor) → 0 < most → Reaches limit most rules s c

-- What bounded calls hand out and the pads that they pass tile the part.
abbrev pub BoundedTiling : Type 0
BoundedTiling =
    (limit : ℕ) (rules : Rules) (s : List ℕ) (lo hi : ℕ) (rs : List BoundedStepped)
    → BoundedRun limit rules s (cursor lo hi) rs → BoundedTiled limit rules s lo hi rs

-- There is such a run of every length with every largest number, so that nothing is said of nothing.
abbrev pub BoundedRunsExist : Type 0
BoundedRunsExist =
    (limit most : ℕ) (rules : Rules) (s : List ℕ) (n : ℕ) (c : Cursor) → (rs : List BoundedStepped) × BoundedRun limit rules s c rs × (length rs ≡ n)

-- The work of a call is bounded: it looks at no more than one place for each pad that it may pass, and one more.
abbrev pub WorkBounded : Type 0
WorkBounded = (limit most : ℕ) (rules : Rules) (s : List ℕ) (c : Cursor) → (places : List ℕ) × Looks limit most rules s c places
