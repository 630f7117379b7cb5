-- The places of a value and of a pad: facts on bytes, of which both the document's format and the answers speak.
-- Assumes nothing.
use Rattle.std.specs.Prelude.{ℕ}

-- a value's spans, as the record has them: its own descriptor byte, where the item starts, where its annotations start and its descriptor stands (which
-- is the annotations' end), where its body starts, and where it ends. Without annotations the first three are one place.
pub record Spans : Type 0 where
  pub byte : ℕ
  pub start : ℕ
  pub annotations : ℕ
  pub descriptor : ℕ
  pub body : ℕ
  pub end : ℕ

-- a pad's body, and where it ends
pub record Padding : Type 0 where
  pub body : ℕ
  pub end : ℕ
