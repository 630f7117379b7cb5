-- Reading a walk's items in order: what A.5's check is held against.
-- Assumes nothing.
use Rattle.std.specs.Prelude.{ℕ, ◌+◌, List, [], ◌∷◌, eqb}
use Rattle.numbers.specs.Outcome.{Outcome, gives, refuses, pick, and_then}
use Rattle.stepping.specs.Items.{Item, finish, marker, value, field}
use Rattle.walking.specs.Walk.{Visit}
use Rattle.checking.specs.Counts.{markers, place_of}
use Rattle.checking.specs.Reading.{Done, done, read_item}

-- one where the two places are one
abbrev pub one : ℕ → ℕ → ℕ
one i place = pick (eqb i place) 1 0

-- of each value its annotations and its scalar are read; n items counted for the place i before. A refusal, the walk's or a reading's, is the answer.
abbrev pub then_count : (ℕ → Outcome ℕ) → ℕ → Done → Outcome ℕ
then_count go n done = go n

abbrev pub read_visit : ℕ → List ℕ → (ℕ → Outcome ℕ) → ℕ → Outcome Item → Outcome ℕ
read_visit i s go n (gives (finish p)) = go n
read_visit i s go n (gives (marker a major minor e)) = go (n + one i markers)
read_visit i s go n (gives (value v)) = and_then (read_item s v) (then_count go (n + one i (place_of v)))
read_visit i s go n (gives (field id a v)) = and_then (read_item s v) (then_count go (n + one i (place_of v)))
read_visit i s go n (refuses number position) = refuses number position

unfoldable pub read_visits : ℕ → List ℕ → List Visit → ℕ → Outcome ℕ
read_visits i s [] n = gives n
read_visits i s (v ∷ vs) n = read_visit i s (read_visits i s vs) n v.answer

-- how many items of a walk have the place i
abbrev pub of_answer : ℕ → Outcome Item → ℕ
of_answer i (gives (finish p)) = 0
of_answer i (gives (marker a major minor e)) = one i markers
of_answer i (gives (value v)) = one i (place_of v)
of_answer i (gives (field id a v)) = one i (place_of v)
of_answer i (refuses number position) = 0

abbrev pub items_of : ℕ → List Visit → ℕ
items_of i [] = 0
items_of i (v ∷ vs) = of_answer i v.answer + items_of i vs
