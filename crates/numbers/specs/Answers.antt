-- The scope paper's "VarUInt, VarInt, Int": what each reading of the part at..end of a slice answers, in terms of the Ion document's fields.
-- Assumes nothing.
use Rattle.std.specs.Prelude.{ℕ, zero, suc, ◌+◌, ◌-◌, ◌%◌, Bool, false, List, [], length, get_or, ltb, leb, eqb}
use Rattle.numbers.specs.Format.{var_uint_of, var_int_negative, var_int_magnitude, int_negative}
use Rattle.numbers.specs.Outcome.{Outcome, gives, refuses, pick, refuse_if, within}
use Rattle.numbers.specs.Bytes.{part}

-- "A byte from 80 up is the last": where it stands among the n bytes from `at` on, and their end where there is none.
unfoldable pub last_among : List ℕ → ℕ → ℕ → ℕ
last_among s at zero = at
last_among s at (suc n) = pick (leb 128 (get_or s at 0)) at (last_among s (suc at) n)

unfoldable pub last_byte : List ℕ → ℕ → ℕ → ℕ
last_byte s at end = last_among s at (end - at)

-- "VarUInt and VarInt have at most 9 bytes, leading zeros included".
abbrev pub most_bytes : ℕ
most_bytes = 9

-- Both: the number `cut` at the end of the part read where the last byte is missing, then 20 at the first byte where there are more than nine, then
-- the answer made of the number's end.
unfoldable pub var_number : {A : Type 0} → ℕ → (ℕ → A) → List ℕ → ℕ → ℕ → Outcome A
var_number cut answer s at end =
    within s at end
    (refuse_if (eqb (last_byte s at end) end) cut end
    (refuse_if (ltb most_bytes (last_byte s at end + 1 - at)) 20 at (gives (answer (last_byte s at end + 1)))))

-- how far such a reading looks: past the last byte, and to the end of the part where there is none
unfoldable pub looked_to : List ℕ → ℕ → ℕ → ℕ
looked_to s at end = pick (ltb (last_byte s at end) end) (last_byte s at end + 1) end

-- a VarUInt's value, and where it ends
pub record Unsigned : Type 0 where
  pub value : ℕ
  pub next : ℕ

abbrev pub unsigned : List ℕ → ℕ → ℕ → Unsigned
unsigned s at next = record { value = var_uint_of (part s at next); next = next }

unfoldable pub var_uint : List ℕ → ℕ → ℕ → Outcome Unsigned
var_uint s at end = var_number 3 (unsigned s at) s at end

-- a VarInt's sign and magnitude, and where it ends; negative zero is negative with magnitude 0
pub record Signed : Type 0 where
  pub negative : Bool
  pub magnitude : ℕ
  pub next : ℕ

abbrev pub signed : List ℕ → ℕ → ℕ → Signed
signed s at next =
    record { negative = var_int_negative (part s at next); magnitude = var_int_magnitude (part s at next); next = next }

unfoldable pub var_int : List ℕ → ℕ → ℕ → Outcome Signed
var_int s at end = var_number 4 (signed s at) s at end

-- An Int's "answer is the sign, the low seven bits of its first byte, and the bytes after it as a part": rest..end.
pub record Fixed : Type 0 where
  pub negative : Bool
  pub first : ℕ
  pub rest : ℕ
  pub end : ℕ

-- "Int has the length given, 0 being zero"; 9 at its start where it is cut short
unfoldable pub int : List ℕ → ℕ → ℕ → ℕ → Outcome Fixed
int s at end length =
    within s at end
    (pick (eqb length 0) (gives (record { negative = false; first = 0; rest = at; end = at }))
    (refuse_if (ltb (end - at) length) 9 at
    (gives
    (record { negative = int_negative (part s at (at + length)); first = get_or s at 0 % 128; rest = at + 1; end = at + length }))))

-- these bytes, and none where the reading refuses
abbrev pub rest_of : List ℕ → Outcome Fixed → List ℕ
rest_of s (gives i) = part s i.rest i.end
rest_of s (refuses number position) = []

unfoldable pub int_rest : List ℕ → ℕ → ℕ → ℕ → List ℕ
int_rest s at end length = rest_of s (int s at end length)
