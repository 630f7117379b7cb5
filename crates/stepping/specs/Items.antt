-- What a step hands out and the pads that it passes, by their places: facts on bytes, of which both the document's format and the answers speak.
-- Assumes nothing.
use Rattle.std.specs.Prelude.{ℕ}
use Rattle.framing.specs.Spans.{Spans}

-- what a step hands out, as the record's kinds 0 to 3: the end with its position; a marker with its start, its two numbers and its end; a value; a field with
-- its ID, where that starts, and its value
pub data Item : Type 0 where
  finish : ℕ → Item
  marker : ℕ → ℕ → ℕ → ℕ → Item
  value : Spans → Item
  field : ℕ → ℕ → Spans → Item

-- where an item ends
abbrev pub item_end : Item → ℕ
item_end (finish p) = p
item_end (marker a major minor e) = e
item_end (value v) = v.end
item_end (field id a v) = v.end

-- a pad that a step passed: where it starts (in a struct with its field ID), its body, and where it ends
pub record Pad : Type 0 where
  pub start : ℕ
  pub body : ℕ
  pub end : ℕ
