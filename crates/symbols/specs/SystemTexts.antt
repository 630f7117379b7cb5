-- The change request A.7: the texts of the IDs 1 to 9, which a caller lends joined.
-- Assumes nothing.
use Rattle.std.specs.Prelude.{ℕ, Bool, true, false, List, [], ◌∷◌, ◌++◌, length, take, eqb}
use Rattle.numbers.specs.Outcome.{pick}

-- "IDs 1 to 9 are $ion, $ion_1_0, $ion_symbol_table, name, version, imports, symbols, max_id, $ion_shared_symbol_table"
unfoldable pub system_texts : List (List ℕ)
system_texts =
    (36 ∷ 105 ∷ 111 ∷ 110 ∷ [])
    ∷ (36 ∷ 105 ∷ 111 ∷ 110 ∷ 95 ∷ 49 ∷ 95 ∷ 48 ∷ [])
    ∷ (36 ∷ 105 ∷ 111 ∷ 110 ∷ 95 ∷ 115 ∷ 121 ∷ 109 ∷ 98 ∷ 111 ∷ 108 ∷ 95 ∷ 116 ∷ 97 ∷ 98 ∷ 108 ∷ 101 ∷ [])
    ∷ (110 ∷ 97 ∷ 109 ∷ 101 ∷ [])
    ∷ (118 ∷ 101 ∷ 114 ∷ 115 ∷ 105 ∷ 111 ∷ 110 ∷ [])
    ∷ (105 ∷ 109 ∷ 112 ∷ 111 ∷ 114 ∷ 116 ∷ 115 ∷ [])
    ∷ (115 ∷ 121 ∷ 109 ∷ 98 ∷ 111 ∷ 108 ∷ 115 ∷ [])
    ∷ (109 ∷ 97 ∷ 120 ∷ 95 ∷ 105 ∷ 100 ∷ [])
    ∷ (36 ∷ 105 ∷ 111 ∷ 110 ∷ 95 ∷ 115 ∷ 104 ∷ 97 ∷ 114 ∷ 101 ∷ 100 ∷ 95 ∷ 115 ∷ 121 ∷ 109 ∷ 98 ∷ 111 ∷ 108 ∷ 95 ∷ 116 ∷ 97 ∷ 98 ∷ 108 ∷ 101 ∷ [])
    ∷ []

abbrev pub joined : List (List ℕ) → List ℕ
joined [] = []
joined (t ∷ ts) = t ++ joined ts

-- "those nine joined"
unfoldable pub system_bytes : List ℕ
system_bytes = joined system_texts

-- where the text behind the first n begins in it
unfoldable pub text_start : ℕ → ℕ
text_start n = length (joined (take n system_texts))

unfoldable pub same_bytes : List ℕ → List ℕ → Bool
same_bytes [] [] = true
same_bytes [] (y ∷ ys) = false
same_bytes (x ∷ xs) [] = false
same_bytes (x ∷ xs) (y ∷ ys) = pick (eqb x y) (same_bytes xs ys) false
