-- A table that holds a rule's value at each place has it at the place asked: the test is computed once, over the whole table.
-- Assumes nothing.
use Prim.Native.Nat.{ℕ, zero, suc, ◌+◌, ◌<◌}
use native.Mathlib.Nat.{add-zero, zero-add, add-suc, suc-add, le_of_suc-le-suc, not-suc-le-zero}
use mathlib.Core.Path.{◌≡◌, ◌∙◌, sym, ap}
use mathlib.Core.Bool.{Bool, true, false}
use mathlib.Core.List.{List, [], ◌∷◌}
use lib.ListN.{length, get_or}
use lib.Dec.{T, eqb, eqb→eq}
use Rattle.numbers.specs.Outcome.{pick}

-- each entry is the rule's value at its place, counted from i
abbrev pub holds : (ℕ → ℕ) → ℕ → List ℕ → Bool
holds rule i [] = true
holds rule i (x ∷ xs) = pick (eqb x (rule i)) (holds rule (suc i) xs) false

pub first_test : (a b : Bool) → T (pick a b false) → T a
first_test true b h = tt
first_test false b h = h

pub second_test : (a b : Bool) → T (pick a b false) → T b
second_test true b h = h
second_test false b h = absurd h

from : (rule : ℕ → ℕ) (xs : List ℕ) (i : ℕ) → T (holds rule i xs) → (k : ℕ) → k < length xs → get_or xs k 0 ≡ rule (i + k)
from rule [] i h k l = absurd (not-suc-le-zero l)
from rule (x ∷ xs) i h zero l = eqb→eq x (rule i) (first_test (eqb x (rule i)) (holds rule (suc i) xs) h) ∙ ap rule (sym (add-zero i))
from rule (x ∷ xs) i h (suc k) l =
    from rule xs (suc i) (second_test (eqb x (rule i)) (holds rule (suc i) xs) h) k (le_of_suc-le-suc l) ∙ ap rule (suc-add i k ∙ sym (add-suc i k))

pub entry : (rule : ℕ → ℕ) (xs : List ℕ) (k : ℕ) → T (holds rule 0 xs) → k < length xs → get_or xs k 0 ≡ rule k
entry rule xs k h l = from rule xs 0 h k l ∙ ap rule (zero-add k)
