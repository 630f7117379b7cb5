-- What an exported function that a change request added answers, where it is not an answer of a lower layer as it stands.
-- Assumes nothing.
use Rattle.std.specs.Prelude.{ℕ, List, ltb}
use Rattle.numbers.specs.Outcome.{pick}
use Rattle.framing.specs.Limits.{out_of_range}
use Rattle.stepping.specs.Kinds.{rules_of}
use Rattle.counting.specs.Counted.{unbegun, ids_begun}
use Rattle.counting.specs.Bounded.{Bounded, reached, more, bounded}
use Rattle.records.specs.Words.{words, more_words}

-- ---- the bounded step: by the change request A.8, with a largest number of pads; 68, then 50, then 67

unfoldable pub exported_bounded : ℕ → ℕ → List ℕ → ℕ → ℕ → ℕ → ℕ → Bounded
exported_bounded limit most s start end position kind =
    pick (out_of_range limit) (reached (unbegun 68))
    (pick (ltb position start) (reached (unbegun 50))
    (pick (ltb 2 kind) (reached (unbegun 50))
    (bounded limit most (rules_of kind) s (record { at = position; end = end }))))

abbrev pub bounded_words : Bounded → List ℕ
bounded_words (reached r) = words r.answer
bounded_words (more pads position) = more_words pads position

-- ---- the count of field IDs: by the change request A.3 "how many IDs that step began to read", of a struct step, and 0 where it is refused with 68 or 50

unfoldable pub exported_ids : ℕ → List ℕ → ℕ → ℕ → ℕ → ℕ
exported_ids limit s start end position = pick (ltb position start) 0 (ids_begun limit s (record { at = position; end = end }))
