-- What a part holds by its bytes, at every depth: the pads, markers and values of the Ion document that tile it and the bodies of its containers.
-- Assumes nothing.
use Rattle.std.specs.Prelude.{ℕ, ◌+◌, ◌≡◌, true, false, List}
use Rattle.framing.specs.Spans.{Spans}
use Rattle.stepping.specs.Items.{Item, marker, Pad}
use Rattle.stepping.specs.Format.{PadAt, ItemAt}
use Rattle.stepping.specs.Meaning.{PadWithin, ItemWithin}
use Rattle.stepping.specs.declared.cursor.Rules.{Rules}
use Rattle.runs.specs.Reached.{ValueOf}
use Rattle.values.specs.Scalars.{is_container, body_rules}
use Rattle.checking.specs.Counts.{markers, pads, place_of}
use Rattle.checking.specs.WalkRead.{one}

-- From `at` to hi the part is pads and items, one behind the other, each of the document and within the limits; with what the bodies of its containers hold, n
-- of them have the place i.
pub data Held (limit : ℕ) (s : List ℕ) (i : ℕ) : Rules → ℕ → ℕ → ℕ → Type 0 where
  nothing : {rules : Rules} {hi : ℕ} → Held limit s i rules hi hi 0
  a_pad : {rules : Rules} {hi n : ℕ} {p : Pad} (t : PadAt rules s hi p) → PadWithin t
      → Held limit s i rules hi p.end n → Held limit s i rules hi p.start (one i pads + n)
  a_marker : {rules : Rules} {hi at a major minor e n : ℕ} (t : ItemAt s hi rules at (marker a major minor e)) → ItemWithin limit t
      → Held limit s i rules hi e n → Held limit s i rules hi at (one i markers + n)
  a_scalar : {rules : Rules} {hi at n : ℕ} {x : Item} {v : Spans} (t : ItemAt s hi rules at x) → ItemWithin limit t → ValueOf x v → is_container v ≡ false
      → Held limit s i rules hi v.end n → Held limit s i rules hi at (one i (place_of v) + n)
  a_container : {rules : Rules} {hi at m n : ℕ} {x : Item} {v : Spans} (t : ItemAt s hi rules at x) → ItemWithin limit t → ValueOf x v → is_container v ≡ true
      → Held limit s i (body_rules v) v.end v.body m → Held limit s i rules hi v.end n
      → Held limit s i rules hi at (one i (place_of v) + m + n)
