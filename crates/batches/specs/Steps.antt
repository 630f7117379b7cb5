-- What the exported run of steps answers: as many steps as a lent buffer has room for.
-- Assumes nothing.
use Rattle.std.specs.Prelude.{ℕ, zero, suc, ◌*◌, ◌/◌, List, [], ◌∷◌, ◌++◌, length, drop, ltb}
use Rattle.numbers.specs.Outcome.{Outcome, pick}
use Rattle.stepping.specs.Items.{Item}
use Rattle.stepping.specs.Leaving.{left_of, on_left}
use Rattle.records.specs.Words.{words}
use Rattle.records.specs.Buffer.{bytes_of, record_size, number_of}
use Rattle.maps.specs.Exported.{exported_step}

-- the answers of n calls of the exported step, each with the position that the one before left, up to the end or a refusal
unfoldable pub exported_run : ℕ → ℕ → List ℕ → ℕ → ℕ → ℕ → ℕ → List (Outcome Item)
exported_run limit zero s start end position kind = []
exported_run limit (suc n) s start end position kind =
    exported_step limit s start end position kind
    ∷ on_left (left_of (exported_step limit s start end position kind)) [] (λ at. exported_run limit n s start end at kind)

-- "as many steps as the lent buffer has room for"
abbrev pub full_run : ℕ → List ℕ → List ℕ → ℕ → ℕ → ℕ → ℕ → List (Outcome Item)
full_run limit old s start end position kind = exported_run limit (length old / record_size) s start end position kind

-- the words of answers, one after the other
abbrev pub all_words : List (Outcome Item) → List ℕ
all_words [] = []
all_words (o ∷ os) = words o ++ all_words os

-- the number of the last answer, n where there is none
abbrev pub last_number : ℕ → List (Outcome Item) → ℕ
last_number n [] = n
last_number n (o ∷ os) = last_number (number_of o) os

-- what a call leaves in the buffer, how many records it says there are, and what it returns; 51 first
unfoldable pub records_in : List (Outcome Item) → List ℕ → List ℕ
records_in os old = pick (ltb (length old) record_size) old (bytes_of (all_words os) ++ drop (record_size * length os) old)

unfoldable pub count_in : List (Outcome Item) → List ℕ → ℕ
count_in os old = pick (ltb (length old) record_size) 0 (length os)

unfoldable pub returned_last : List (Outcome Item) → List ℕ → ℕ
returned_last os old = pick (ltb (length old) record_size) 51 (last_number 0 os)
