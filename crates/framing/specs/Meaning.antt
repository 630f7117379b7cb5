-- What the framing's answers say of the bytes, in both directions: what is framed is a value or a pad of the Ion document with these places, and one that
-- fits the part and the limits is framed, whatever the limit of annotation bytes. The theorems are proved in proofs/Soundness.antt and
-- proofs/Completeness.antt.
-- Assumes nothing.
use Rattle.std.specs.Prelude.{ℕ, ◌+◌, ◌≤◌, ◌≡◌, List}
use Rattle.numbers.specs.Outcome.{gives}
use Rattle.framing.specs.Spans.{Spans, Padding}
use Rattle.framing.specs.Answers.{padding, valued, read_value, read_frame, read_pad}
use Rattle.framing.specs.Format.{NopPadding, ValueBytes, plain, annotated}

-- the limits: a length field of at most nine bytes, a number here and no name, so that another in the definitions is refused; and at most `limit` bytes of
-- annotations, whatever that limit is
abbrev pub Within : (limit : ℕ) {s : List ℕ} {at end : ℕ} {v : Spans} → ValueBytes s at end v → Type 0
Within limit {at = at} {v = v} (plain t) = v.body ≤ at + 1 + 9
Within limit {at = at} {v = v} (annotated w) =
    (w.after ≤ at + 1 + 9)
    × (v.annotations ≤ w.after + 9)
    × (v.descriptor ≤ v.annotations + limit)
    × (v.body ≤ v.descriptor + 1 + 9)

-- what is framed is such bytes, within the limits
abbrev pub ValuesSound : Type 0
ValuesSound = (limit : ℕ) (s : List ℕ) (at end : ℕ) (v : Spans) → read_value limit s at end ≡ gives v → (b : ValueBytes s at end v) × Within limit b

abbrev pub PadsSound : Type 0
PadsSound = (s : List ℕ) (at end : ℕ) (p : Padding) → read_pad s at end ≡ gives p → NopPadding s at end p × (p.body ≤ at + 1 + 9)

-- such bytes within the limits are framed, and nothing else is answered
abbrev pub ValuesComplete : Type 0
ValuesComplete =
    (limit : ℕ) (s : List ℕ) (at end : ℕ) (v : Spans) (b : ValueBytes s at end v)
    → Within limit b → (read_value limit s at end ≡ gives v) × (read_frame limit s at end ≡ gives (valued v))

abbrev pub PadsComplete : Type 0
PadsComplete =
    (limit : ℕ) (s : List ℕ) (at end : ℕ) (p : Padding)
    → NopPadding s at end p → p.body ≤ at + 1 + 9 → (read_pad s at end ≡ gives p) × (read_frame limit s at end ≡ gives (padding p))
