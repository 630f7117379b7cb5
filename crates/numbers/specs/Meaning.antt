-- What the answers say of the bytes, in both directions: what is read is a field of the Ion document and its worth, what is refused is none, and such a
-- field within the scope paper's nine bytes is read. The theorems are proved in proofs/Meaning.antt.
-- Assumes nothing.
use Rattle.std.specs.Prelude.{ℕ, ◌+◌, ◌^◌, ◌≤◌, ◌<◌, ◌≡◌, ◌⊎◌, List, ◌∷◌, length, get_or}
use Rattle.numbers.specs.Format.{NumberAt, of_digits, int_negative, int_magnitude}
use Rattle.numbers.specs.Outcome.{Outcome, gives, refuses}
use Rattle.numbers.specs.Bytes.{part}
use Rattle.numbers.specs.Answers.{Unsigned, Signed, Fixed, unsigned, signed, var_uint, var_int, int}

-- what the bytes are under each answer: at most nine of them, which the answer is made of; a part outside the slice; no last byte in the part; or
-- more than nine bytes. The limit is a number here and no name, so that another one in the definitions is refused.
pub data NumberMeaning {A : Type 0} (cut : ℕ) (answer : ℕ → A) (s : List ℕ) (at end : ℕ) : Outcome A → Type 0 where
  reads : {next : ℕ} → NumberAt s at end next → next ≤ at + 9 → NumberMeaning cut answer s at end (gives (answer next))
  outside : (end < at) ⊎ (length s < end) → NumberMeaning cut answer s at end (refuses 50 0)
  cut_short : at ≤ end → end ≤ length s → ((i : ℕ) → at ≤ i → i < end → get_or s i 0 < 128) → NumberMeaning cut answer s at end (refuses cut end)
  too_long : {next : ℕ} → NumberAt s at end next → at + 9 < next → NumberMeaning cut answer s at end (refuses 20 at)

-- every answer of a VarUInt's reading and of a VarInt's means this
abbrev pub VarUIntSound : Type 0
VarUIntSound = (s : List ℕ) (at end : ℕ) → NumberMeaning 3 (unsigned s at) s at end (var_uint s at end)

abbrev pub VarIntSound : Type 0
VarIntSound = (s : List ℕ) (at end : ℕ) → NumberMeaning 4 (signed s at) s at end (var_int s at end)

-- such bytes, nine at most, are read, and nothing else is answered
abbrev pub VarUIntComplete : Type 0
VarUIntComplete = (s : List ℕ) (at end next : ℕ) → NumberAt s at end next → next ≤ at + 9 → var_uint s at end ≡ gives (unsigned s at next)

abbrev pub VarIntComplete : Type 0
VarIntComplete = (s : List ℕ) (at end next : ℕ) → NumberAt s at end next → next ≤ at + 9 → var_int s at end ≡ gives (signed s at next)

-- a VarUInt is below 2^63, and a VarInt's magnitude below 2^62
abbrev pub VarUIntSmall : Type 0
VarUIntSmall = (s : List ℕ) (at end : ℕ) (u : Unsigned) → var_uint s at end ≡ gives u → u.value < 2 ^ 63

abbrev pub VarIntSmall : Type 0
VarIntSmall = (s : List ℕ) (at end : ℕ) (i : Signed) → var_int s at end ≡ gives i → i.magnitude < 2 ^ 62

-- an Int's answer has the sign of its bytes, and its seven bits and the bytes after them are their magnitude
pub record IntMeaning (s : List ℕ) (at end size : ℕ) (i : Fixed) : Type 0 where
  pub sign : i.negative ≡ int_negative (part s at (at + size))
  pub magnitude : of_digits 256 (i.first ∷ part s i.rest i.end) ≡ int_magnitude (part s at (at + size))
  pub last : i.end ≡ at + size
  pub low : at ≤ i.rest
  pub order : i.rest ≤ i.end
  pub ends : i.end ≤ end
  pub within : end ≤ length s

abbrev pub IntsSound : Type 0
IntsSound = (s : List ℕ) (at end size : ℕ) (i : Fixed) → int s at end size ≡ gives i → IntMeaning s at end size i

-- an Int that fits the part is read
abbrev pub IntsComplete : Type 0
IntsComplete = (s : List ℕ) (at end size : ℕ) → at + size ≤ end → end ≤ length s → (i : Fixed) × (int s at end size ≡ gives i)
