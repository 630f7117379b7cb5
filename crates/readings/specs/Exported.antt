-- What an exported reading answers.
-- Assumes nothing.
use Rattle.std.specs.Prelude.{ℕ, List, ltb, eqb}
use Rattle.numbers.specs.Outcome.{Outcome, pick, refuse_if, and_then}
use Rattle.numbers.specs.Answers.{var_uint, var_int, int}
use Rattle.framing.specs.Answers.{Annotated, read_annotation}
use Rattle.values.specs.Scalars.{value_in}
use Rattle.records.specs.FirstWords.{Entered, enter, Number, of_unsigned, of_signed, of_fixed}

-- ---- the annotation step: over the bytes start..end

unfoldable pub exported_annotation : List ℕ → ℕ → ℕ → ℕ → Outcome Annotated
exported_annotation s start end position = refuse_if (ltb position start) 50 0 (read_annotation s position end)

-- ---- stepping in

unfoldable pub exported_body : ℕ → List ℕ → ℕ → ℕ → ℕ → Outcome Entered
exported_body limit s start end position = and_then (value_in limit s start end position) enter

-- ---- numbers: form 0 a VarUInt, 1 a VarInt, 2 an Int of the length given

unfoldable pub number_by : List ℕ → ℕ → ℕ → ℕ → ℕ → Outcome Number
number_by s end position form size =
    pick (eqb form 0) (and_then (var_uint s position end) of_unsigned)
    (pick (eqb form 1) (and_then (var_int s position end) of_signed) (and_then (int s position end size) of_fixed))

unfoldable pub exported_number : List ℕ → ℕ → ℕ → ℕ → ℕ → ℕ → Outcome Number
exported_number s start end position form size =
    refuse_if (ltb position start) 50 0 (refuse_if (ltb 2 form) 50 0 (number_by s end position form size))
