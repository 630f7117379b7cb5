-- What A.5 reads of a value whose places are known: "every scalar, decimal, timestamp and annotation ID is read"; "annotations next, then its scalar".
-- Assumes nothing.
use Rattle.std.specs.Prelude.{ℕ, zero, suc, ◌-◌, List}
use Rattle.numbers.specs.Outcome.{Outcome, gives, and_then}
use Rattle.framing.specs.Spans.{Spans}
use Rattle.framing.specs.Answers.{Annotated, ident, finished, read_annotation}
use Rattle.bodies.specs.Decimal.{decimal as split_decimal}
use Rattle.timestamps.specs.Timestamp.{timestamp as read_stamp}
use Rattle.values.specs.Scalars.{Scalar, null, bool, int, float, decimal, timestamp, symbol, string, clob, blob, container, scalar_of}

-- what was read without a refusal
pub data Done : Type 0 where
  done : Done

-- the annotation IDs from `at` to `end`, one behind the other, of at most k bytes
abbrev pub on_id : (ℕ → Outcome Done) → Annotated → Outcome Done
on_id go (ident id next) = go next
on_id go finished = gives done

unfoldable pub ids_from : ℕ → List ℕ → ℕ → ℕ → Outcome Done
ids_from zero s end at = gives done
ids_from (suc k) s end at = and_then (read_annotation s at end) (on_id (ids_from k s end))

unfoldable pub read_ids : List ℕ → ℕ → ℕ → Outcome Done
read_ids s at end = ids_from (end - at) s end at

-- a reading of which no more is asked than that it gives
abbrev pub as_done : {A : Type 0} → A → Outcome Done
as_done a = gives done

-- a decimal is split, by A.1, and a timestamp read, by A.4; of any other scalar its own reading is all
abbrev pub read_body : List ℕ → ℕ → Scalar → Outcome Done
read_body s descriptor (null t) = gives done
read_body s descriptor (bool b) = gives done
read_body s descriptor (int n a b) = gives done
read_body s descriptor (float w) = gives done
read_body s descriptor (decimal a b) = and_then (split_decimal s a b) as_done
read_body s descriptor (timestamp a b) = and_then (read_stamp descriptor s a b) as_done
read_body s descriptor (symbol i) = gives done
read_body s descriptor (string a b) = gives done
read_body s descriptor (clob a b) = gives done
read_body s descriptor (blob a b) = gives done
read_body s descriptor container = gives done

-- the scalar of a value; a container says that it is one
unfoldable pub read_content : List ℕ → Spans → Outcome Done
read_content s v = and_then (scalar_of s v) (read_body s v.descriptor)

abbrev pub content_next : List ℕ → Spans → Done → Outcome Done
content_next s v done = read_content s v

unfoldable pub read_item : List ℕ → Spans → Outcome Done
read_item s v = and_then (read_ids s v.annotations v.descriptor) (content_next s v)
