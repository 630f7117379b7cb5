-- The counts of the change request A.5: "counts of markers, pads and each of the thirteen types, nulls under their type".
-- Assumes nothing.
use Rattle.std.specs.Prelude.{ℕ, ◌+◌, List, get_or, set, replicate, ltb}
use Rattle.numbers.specs.Outcome.{pick}
use Rattle.framing.specs.Spans.{Spans}
use Rattle.values.specs.Scalars.{type_of}

-- markers, pads, null, bool, int, float, decimal, timestamp, symbol, string, clob, blob, list, sexp, struct: the place of each count
abbrev pub places : ℕ
places = 15

abbrev pub markers : ℕ
markers = 0

abbrev pub pads : ℕ
pads = 1

-- the place of a type, by its type code: those of positive and negative ints, 2 and 3, have one
unfoldable pub type_place : ℕ → ℕ
type_place type = pick (ltb type 3) (type + 2) (type + 1)

-- a value's, null or not
abbrev pub place_of : Spans → ℕ
place_of v = type_place (type_of v)

abbrev pub none : List ℕ
none = replicate places 0

-- n more in a place
unfoldable pub counting : ℕ → ℕ → List ℕ → List ℕ
counting place n c = set c place (get_or c place 0 + n)
