-- What is met and how it is packed, as the packing goes on with it.
-- Assumes nothing.
use Rattle.std.specs.Prelude.{ℕ, ◌+◌, ◌≤◌, ◌≡◌, List, [], ◌∷◌, ◌++◌, Option, Some, None}
use Rattle.numbers.specs.Bytes.{part}
use Rattle.framing.specs.Read.{spans_of}
use Rattle.packing.specs.Packed.{head_of}
use Rattle.packing.specs.Private.Fronts.{front_of}
use Rattle.packing.specs.Private.Bytes.{bytes_at, body_bytes, value_bytes}
use Rattle.packing.specs.declared.part.Part.{Part}
use Rattle.packing.specs.declared.part.Entry.{Entry}
use Rattle.packing.specs.declared.part.Met.{Met}
use Rattle.packing.specs.declared.part.Met.TheVariants.{Marker, Value}

-- what is left of a part from a place on, and all of it, packed
abbrev pub left_bytes : Part → ℕ → List ℕ
left_bytes p at = bytes_at p.limit p.s.now p.rules p.end at

abbrev pub part_bytes : Part → List ℕ
part_bytes p = left_bytes p p.at

-- a value's body and all of it, packed
abbrev pub entry_body : Entry → List ℕ
entry_body x = body_bytes x.limit x.s.now (spans_of x.value)

abbrev pub entry_bytes : Entry → List ℕ
entry_bytes x = value_bytes x.limit x.s.now x.from (spans_of x.value)

-- what is met, and what is left of the part behind it, packed
abbrev pub met_bytes : Part → Option Met → List ℕ
met_bytes p None = []
met_bytes p (Some (Marker major minor e)) = 224 ∷ major ∷ minor ∷ 234 ∷ left_bytes p e
met_bytes p (Some (Value x)) = entry_bytes x ++ left_bytes p x.value.end

-- what is met lies in what is left of the part
abbrev pub MetFits : Part → ℕ → Option Met → Type 0
MetFits p at None = Unit {0}
MetFits p at (Some (Marker major minor e)) = (at + 4 ≤ e) × (e ≤ p.end)
MetFits p at (Some (Value x)) = (at ≤ x.from) × (x.value.end ≤ p.end)

-- what is in a value: a part that is its body where that is a container, and nothing where it is copied
abbrev pub Inside : Entry → Option Part → Type 0
Inside x None = entry_body x ≡ part x.s.now x.value.body x.value.end
Inside x (Some p) = (part_bytes p ≡ entry_body x) × (p.at ≡ x.value.body) × (p.end ≡ x.value.end)

-- what goes before a value's body of n bytes
abbrev pub entry_front : Entry → ℕ → List ℕ
entry_front x n = front_of (head_of x.s.now (part x.s.now x.from x.value.start) (spans_of x.value) n) n
