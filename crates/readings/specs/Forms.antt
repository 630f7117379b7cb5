-- The forms of numbers as numbers, and back.
-- Assumes nothing.
use Rattle.std.specs.Prelude.{ℕ, eqb}
use Rattle.numbers.specs.Outcome.{pick}
use Rattle.readings.specs.declared.form.Form.{Form}
use Rattle.readings.specs.declared.form.Form.TheVariants.{VarUInt, VarInt, Int}

-- "form 0 a VarUInt, 1 a VarInt, 2 an Int of the length given"; a form above 2 is refused before
abbrev pub form_of : ℕ → Form
form_of form = pick (eqb form 0) VarUInt (pick (eqb form 1) VarInt Int)

abbrev pub form_number : Form → ℕ
form_number VarUInt = 0
form_number VarInt = 1
form_number Int = 2
