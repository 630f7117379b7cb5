-- The words of each kind of record: the scope paper's eight (FirstWords.antt), and behind them word 8 of the change request A.6.
-- Assumes nothing.
use Rattle.std.specs.Prelude.{ℕ, ◌+◌, ◌-◌, ◌*◌, ◌^◌, List, [], ◌∷◌, ◌++◌}
use Rattle.numbers.specs.Outcome.{Outcome, gives, refuses}
use Rattle.framing.specs.Spans.{Spans}
use Rattle.framing.specs.Answers.{Annotated}
use Rattle.bodies.specs.Decimal.{Split}
use Rattle.timestamps.specs.declared.timestamp.Stamp.{Stamp}
use Rattle.stepping.specs.Items.{Item, finish, marker, value, field}
use Rattle.stepping.specs.declared.cursor.Rules.{Rules}
use Rattle.stepping.specs.declared.cursor.Rules.TheVariants.{Stream, Sequence, Fields}
use Rattle.values.specs.Scalars.{Scalar, ReadValue, span_of}
use Rattle.values.specs.Timestamps.{Dated, stamped, other}
use Rattle.records.specs.FirstWords.{Entered, one_if, Number}
use Rattle.records.specs.FirstWords as first

-- "The first eight words keep their meaning", and behind them stands word 8
abbrev pub with_length : List ℕ → ℕ → List ℕ
with_length ws n = ws ++ (n ∷ [])

-- "0 for markers, ends and refusals"
abbrev pub refused_words : ℕ → ℕ → List ℕ
refused_words number position = with_length (first.refused_words number position) 0

abbrev pub end_words : ℕ → List ℕ
end_words p = with_length (first.end_words p) 0

-- ---- steps: "word 8 is the body's length"

-- of a..b, 0 where b stands before a
abbrev pub value_words : ℕ → ℕ → Spans → ℕ → List ℕ
value_words kind start v id = with_length (first.value_words kind start v id) (v.end - v.body)

abbrev pub item_length : Item → ℕ
item_length (finish p) = 0
item_length (marker a major minor e) = 0
item_length (value v) = v.end - v.body
item_length (field id a v) = v.end - v.body

abbrev pub words : Outcome Item → List ℕ
words (gives i) = with_length (first.item_words i) (item_length i)
words (refuses number position) = refused_words number position

-- "2 value, 3 field": of a value, by the rules of its part
abbrev pub value_kind : Rules → ℕ
value_kind Stream = 2
value_kind Sequence = 2
value_kind Fields = 3

-- the words of a value without a wrapper, from their numbers, the body's length among them: its name's place and ID, its byte and where that stands, its
-- body's places and length. They are `words` of what is read: `bare-words` of proofs/BareWords.antt.
abbrev pub bare_words : Rules → ℕ → ℕ → ℕ → ℕ → ℕ → ℕ → ℕ → List ℕ
bare_words rules start id byte at body end size =
    value_kind rules ∷ byte ∷ start ∷ at ∷ at ∷ body ∷ end ∷ id ∷ size ∷ []

-- ---- the bounded step: by the change request A.8 kind 4 has the number of pads passed "as word 1, with the new position as word 2, the rest 0"

abbrev pub more_words : ℕ → ℕ → List ℕ
more_words pads position = 4 ∷ pads ∷ position ∷ 0 ∷ 0 ∷ 0 ∷ 0 ∷ 0 ∷ 0 ∷ []

-- ---- a number of bytes, of the change requests A.11 to A.13: a kind, 0, 0, the number, zeros

abbrev pub bytes_words : ℕ → Outcome ℕ → List ℕ
bytes_words kind (gives n) = kind ∷ 0 ∷ 0 ∷ n ∷ 0 ∷ 0 ∷ 0 ∷ 0 ∷ 0 ∷ []
bytes_words kind (refuses number position) = refused_words number position

-- ---- the annotation step: 0

abbrev pub annotation_words : ℕ → Outcome Annotated → List ℕ
annotation_words position o = with_length (first.annotation_words position o) 0

-- ---- stepping in: the opened body's length

abbrev pub body_words : Outcome Entered → List ℕ
body_words (gives e) = with_length (first.body_words (gives e)) (e.body.end - e.body.body)
body_words (refuses number at) = refused_words number at

-- ---- the scalar reading: its part's length

abbrev pub scalar_words : Spans → Outcome Scalar → List ℕ
scalar_words v (gives x) = with_length (first.scalar_words v (gives x)) ((span_of (gives x)).end - (span_of (gives x)).start)
scalar_words v (refuses number at) = refused_words number at

abbrev pub reading_words : Outcome ReadValue → List ℕ
reading_words (gives r) = scalar_words r.value r.scalar
reading_words (refuses number at) = refused_words number at

-- ---- numbers: 0

abbrev pub number_words : ℕ → Outcome Number → List ℕ
number_words position o = with_length (first.number_words position o) 0

-- ---- decimals, A.1

-- kind 10, 1 where the coefficient is negative, the body's start, the coefficient's seven bits, 1 where the exponent is negative, the start and the end of the
-- coefficient's further bytes, the exponent's magnitude, 0
abbrev pub decimal_words : ℕ → Outcome Split → List ℕ
decimal_words start (gives d) =
    10
    ∷ one_if d.coefficient.negative
    ∷ start
    ∷ d.coefficient.first
    ∷ one_if d.exponent_negative
    ∷ d.coefficient.rest
    ∷ d.coefficient.end
    ∷ d.exponent
    ∷ 0
    ∷ []
decimal_words start (refuses number at) = refused_words number at

-- ---- timestamps, A.4

-- year + 2^16 month + 2^24 day + 2^32 hour + 2^40 minute + 2^48 second, absent ones 0
unfoldable pub fields_word : ℕ → ℕ → ℕ → ℕ → ℕ → ℕ → ℕ
fields_word year month day hour minute second =
    year + 2 ^ 16 * month + 2 ^ 24 * day + 2 ^ 32 * hour + 2 ^ 40 * minute + 2 ^ 48 * second

-- kind 11, how far it goes, the descriptor's position, the offset, the fields, the exponent's magnitude, 1 where that is negative, the coefficient, 0
abbrev pub stamp_words : ℕ → Stamp → List ℕ
stamp_words descriptor t =
    11
    ∷ t.precision
    ∷ descriptor
    ∷ t.offset
    ∷ fields_word t.year t.month t.day t.hour t.minute t.second
    ∷ t.exponent
    ∷ one_if t.exponent_negative
    ∷ t.coefficient
    ∷ 0
    ∷ []

-- a null or another type as the scalar reading
abbrev pub timestamp_words : Outcome Dated → List ℕ
timestamp_words (gives (stamped descriptor t)) = stamp_words descriptor t
timestamp_words (gives (other v x)) = scalar_words v (gives x)
timestamp_words (refuses number at) = refused_words number at

-- ---- the check

-- kind 12, "markers, pads, null, bool, int, float, decimal, timestamp, symbol, string, clob, blob, list, sexp, struct; a refusal is kind 9, number, position, 13
-- zeros"
abbrev pub check_words : Outcome (List ℕ) → List ℕ
check_words (gives c) = 12 ∷ c
check_words (refuses number position) =
    9 ∷ number ∷ position ∷ 0 ∷ 0 ∷ 0 ∷ 0 ∷ 0 ∷ 0 ∷ 0 ∷ 0 ∷ 0 ∷ 0 ∷ 0 ∷ 0 ∷ 0 ∷ []
