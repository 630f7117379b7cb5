-- The scope paper's "Scalars": a symbol's or a float's bytes, "big-endian", as a number.
-- Assumes nothing.
use Rattle.std.specs.Prelude.{ℕ, ◌-◌, List, ltb}
use Rattle.numbers.specs.Format.{uint_of}
use Rattle.numbers.specs.Outcome.{pick, outside_of}
use Rattle.numbers.specs.Bytes.{part}

-- "Symbol: up to 8 bytes, big-endian": the Ion document's UInt of the bytes at..end. Where at..end is no part of the slice or has more than 8 bytes,
-- which the papers leave free and callers test before, it is 0.
unfoldable pub uint_in : List ℕ → ℕ → ℕ → ℕ
uint_in s at end = pick (outside_of s at end) 0 (pick (ltb 8 (end - at)) 0 (uint_of (part s at end)))
