-- What holds of packed maps, of every limit and all lists of bytes. The proofs: `packed-short`, `packed-tree` and `packed-twice` of proofs/Twice.antt,
-- `packed-accepted` of proofs/Accepted.antt, `same-items` of proofs/SameItems.antt.
-- Assumes nothing.
use Rattle.std.specs.Prelude.{ℕ, ◌≤◌, ◌≡◌, List, map, length, set}
use Rattle.numbers.specs.Outcome.{gives}
use Rattle.checking.specs.Counts.{pads}
use Rattle.checking.specs.Check.{whole_check}
use Rattle.walking.specs.Walk.{whole_walk}
use Rattle.packing.specs.Packed.{tree_of, packed}
use Rattle.packing.specs.Meant.{meant}

-- it is no longer than the map
abbrev pub PackedShort : Type 0
PackedShort = (limit : ℕ) (s : List ℕ) → length (packed limit s) ≤ length s

-- it is read as the same tree: the same markers, field ID bytes, annotation bytes, types, orders and scalar bodies
abbrev pub PackedTree : Type 0
PackedTree = (limit : ℕ) (s : List ℕ) → tree_of limit (packed limit s) ≡ tree_of limit s

-- "Packing twice changes nothing."
abbrev pub PackedTwice : Type 0
PackedTwice = (limit : ℕ) (s : List ℕ) → packed limit (packed limit s) ≡ packed limit s

-- the counts of a check, but none for pads
abbrev pub without_pads : List ℕ → List ℕ
without_pads c = set c pads 0

-- A.5 accepts the packed map of an accepted map, by the same limits, and it holds as many markers and values of each type, and no pads.
abbrev pub PackedAccepted : Type 0
PackedAccepted =
    (limit deepest : ℕ) (s c : List ℕ) → whole_check limit deepest s ≡ gives c → whole_check limit deepest (packed limit s) ≡ gives (without_pads c)

-- "A walk of the result meets the same items as before, offsets and lengths apart": depths, markers, field ID bytes, annotation bytes, types and scalar bodies.
abbrev pub SameItems : Type 0
SameItems =
    (limit deepest : ℕ) (s c : List ℕ) → whole_check limit deepest s ≡ gives c
    → map (meant (packed limit s)) (whole_walk limit deepest (packed limit s)) ≡ map (meant s) (whole_walk limit deepest s)
