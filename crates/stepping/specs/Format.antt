-- The spans of a part by their bytes, from the Ion 1.0 Binary Encoding: what a pad and an item are in a stream, a sequence and a struct. No reader's test.
-- Assumes nothing.
use Rattle.std.specs.Prelude.{ℕ, ◌+◌, ◌≤◌, ◌≡◌, List, length, get_or}
use Rattle.numbers.specs.Format.{var_uint_of, NumberAt}
use Rattle.numbers.specs.Bytes.{part}
use Rattle.framing.specs.Spans.{Spans}
use Rattle.framing.specs.Format.{NopPadding, ValueBytes}
use Rattle.stepping.specs.Items.{Item, marker, value, field, Pad}
use Rattle.stepping.specs.declared.cursor.Rules.{Rules}
use Rattle.stepping.specs.declared.cursor.Rules.TheVariants.{Stream, Sequence, Fields}

-- In a struct a field ID stands at a..n, before the pad or the value; elsewhere nothing does.
pub data NameBytes (s : List ℕ) (hi : ℕ) : Rules → ℕ → ℕ → Type 0 where
  in_stream : {a : ℕ} → NameBytes s hi Stream a a
  in_sequence : {a : ℕ} → NameBytes s hi Sequence a a
  in_fields : {a n : ℕ} → NumberAt s a hi n → NameBytes s hi Fields a n

-- "a pad its field ID in a struct, descriptor, length and body"
pub record PadAt (rules : Rules) (s : List ℕ) (hi : ℕ) (p : Pad) : Type 0 where
  pub after : ℕ
  pub name : NameBytes s hi rules p.start after
  pub bytes : NopPadding s after hi (record { body = p.body; end = p.end })

-- "a marker its four bytes; a value its field ID in a struct, its wrapper if any, and itself": the item that starts at a
pub data ItemAt (s : List ℕ) (hi : ℕ) : Rules → ℕ → Item → Type 0 where
  marker-at : {a : ℕ} → get_or s a 0 ≡ 224 → get_or s (a + 1) 0 ≡ 1 → get_or s (a + 2) 0 ≡ 0 → get_or s (a + 3) 0 ≡ 234 → a + 4 ≤ hi → hi ≤ length s
      → ItemAt s hi Stream a (marker a 1 0 (a + 4))
  value_in_stream : {a : ℕ} {v : Spans} → ValueBytes s a hi v → ItemAt s hi Stream a (value v)
  value_in_sequence : {a : ℕ} {v : Spans} → ValueBytes s a hi v → ItemAt s hi Sequence a (value v)
  field-at : {a n : ℕ} {v : Spans} → NumberAt s a hi n → ValueBytes s n hi v → ItemAt s hi Fields a (field (var_uint_of (part s a n)) a v)
