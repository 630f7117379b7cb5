-- The change request A.11, "How much a packed map will take": "For a map that A.5 accepts", its packed size; "a map not accepted gives the refusal of A.5".
-- Assumes nothing.
use Rattle.std.specs.Prelude.{ℕ, List, ◌++◌, length, drop, ltb}
use Rattle.numbers.specs.Outcome.{Outcome, gives, refuses, refuse_if, and_then}
use Rattle.checking.specs.Check.{whole_check}
use Rattle.packing.specs.Packed.{packed}

-- behind a check, whose counts are not asked for
abbrev pub sized : ℕ → List ℕ → List ℕ → Outcome ℕ
sized limit s counts = gives (length (packed limit s))

unfoldable pub size_of : ℕ → ℕ → List ℕ → Outcome ℕ
size_of limit deepest s = and_then (whole_check limit deepest s) (sized limit s)

-- ---- The change request A.12, "Pack a map": "Write that packed map into a lent buffer."

-- 69 "a buffer shorter than A.11's size, tested after the map is accepted, position the size needed"
abbrev pub fitted : ℕ → ℕ → Outcome ℕ
fitted room n = refuse_if (ltb room n) 69 n (gives n)

unfoldable pub pack_of : ℕ → ℕ → List ℕ → ℕ → Outcome ℕ
pack_of limit deepest s room = and_then (size_of limit deepest s) (fitted room)

-- "Bytes of the buffer past the result, and all of it on a refusal, stay."
abbrev pub leaving : List ℕ → List ℕ → Outcome ℕ → List ℕ
leaving bytes old (gives n) = bytes ++ drop n old
leaving bytes old (refuses number position) = old

unfoldable pub buffer_of : ℕ → ℕ → List ℕ → List ℕ → List ℕ
buffer_of limit deepest s old = leaving (packed limit s) old (pack_of limit deepest s (length old))
