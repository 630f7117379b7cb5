-- What the table says of a lead byte, by three numbers; callers of the crate need none of this.
-- Assumes nothing.
use Rattle.std.specs.Prelude.{ℕ, zero, suc, List, [], ◌∷◌, replicate, eqb, ltb}
use Rattle.numbers.specs.Outcome.{pick}
use Rattle.bodies.specs.Utf8.{Range, range, tail}

-- how many bytes follow a lead byte from 80 up, and the range of the first of them
unfoldable pub tails_of : ℕ → ℕ
tails_of b = pick (ltb b 0xC2) 0 (pick (ltb b 0xE0) 1 (pick (ltb b 0xF0) 2 (pick (ltb b 0xF5) 3 0)))

unfoldable pub low_of : ℕ → ℕ
low_of b = pick (eqb b 0xE0) 0xA0 (pick (eqb b 0xF0) 0x90 0x80)

unfoldable pub high_of : ℕ → ℕ
high_of b = pick (eqb b 0xED) 0x9F (pick (eqb b 0xF4) 0x8F 0xBF)

-- that many ranges, the first of which is given
abbrev pub wanted : ℕ → ℕ → ℕ → List Range
wanted zero low high = []
wanted (suc n) low high = range low high ∷ replicate n tail
