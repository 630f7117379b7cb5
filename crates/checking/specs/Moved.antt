-- What is read of a value wherever it stands: whether its annotations and its scalar are read without a refusal depends on their bytes alone. The proofs:
-- `ids_alike`, `contents_alike` and `items_alike` of proofs/Moving.antt.
-- Assumes nothing.
use Rattle.std.specs.Prelude.{ℕ, ◌+◌, ◌-◌, ◌≤◌, ◌<◌, ◌≡◌, List, length, get_or}
use Rattle.numbers.specs.Outcome.{Outcome, gives, refuses}
use Rattle.framing.specs.Spans.{Spans}
use Rattle.checking.specs.Reading.{read_ids, read_content, read_item}

-- the bytes a..b of s are the bytes from a' to b' of t
pub record SameBytes (s t : List ℕ) (a b a' b' : ℕ) : Type 0 where
  pub order : a ≤ b
  pub within : b ≤ length s
  pub end : b' ≡ a' + (b - a)
  pub within' : b' ≤ length t
  pub same : (i : ℕ) → i < b - a → get_or s (a + i) 0 ≡ get_or t (a' + i) 0

-- two readings of which both give, or both are refused with the same number
pub data Alike {A B : Type 0} : Outcome A → Outcome B → Type 0 where
  both_give : {a : A} {b : B} → Alike (gives a) (gives b)
  both_refuse : {number p q : ℕ} → Alike (refuses number p) (refuses number q)

abbrev pub IdsAlike : Type 0
IdsAlike = (s t : List ℕ) (a b a' b' : ℕ) → SameBytes s t a b a' b' → Alike (read_ids s a b) (read_ids t a' b')

-- of values with one descriptor byte
abbrev pub ContentsAlike : Type 0
ContentsAlike =
    (s t : List ℕ) (v w : Spans) → w.byte ≡ v.byte → SameBytes s t v.body v.end w.body w.end
    → Alike (read_content s v) (read_content t w)

abbrev pub ItemsAlike : Type 0
ItemsAlike =
    (s t : List ℕ) (v w : Spans) → w.byte ≡ v.byte
    → SameBytes s t v.annotations v.descriptor w.annotations w.descriptor
    → SameBytes s t v.body v.end w.body w.end
    → Alike (read_item s v) (read_item t w)
