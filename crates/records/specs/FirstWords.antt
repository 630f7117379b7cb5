-- The scope paper's "Record": the eight words of each kind of record, with which it begins.
-- Assumes nothing.
use Rattle.std.specs.Prelude.{ℕ, Bool, true, false, List, [], ◌∷◌}
use Rattle.numbers.specs.Outcome.{Outcome, gives, refuses, and_then}
use Rattle.numbers.specs.Answers.{Unsigned, Signed, Fixed}
use Rattle.framing.specs.Spans.{Spans}
use Rattle.framing.specs.Answers.{Annotated, ident, finished}
use Rattle.stepping.specs.Items.{Item, finish, marker, value, field}
use Rattle.stepping.specs.Kinds.{part_kind}
use Rattle.values.specs.Scalars.{Opened, opened, Scalar, ReadValue, span_of}
use Rattle.values.specs.Scalars.{null, bool, int as whole, float, decimal, timestamp, symbol, string, clob, blob, container}

-- ---- refusals: the same words for every kind

-- "Refused: kind, number, position, zeros."
abbrev pub refused_words : ℕ → ℕ → List ℕ
refused_words number position = 9 ∷ number ∷ position ∷ 0 ∷ 0 ∷ 0 ∷ 0 ∷ 0 ∷ []

-- ---- steps

-- "End: kind, 0, position, zeros."
abbrev pub end_words : ℕ → List ℕ
end_words p = 0 ∷ 0 ∷ p ∷ 0 ∷ 0 ∷ 0 ∷ 0 ∷ 0 ∷ []

-- "Words of 2 and 3: kind, the value's own descriptor byte, item start, annotations' start, descriptor's position, body start, end, field ID (0 for kind 2)."
abbrev pub value_words : ℕ → ℕ → Spans → ℕ → List ℕ
value_words kind start v id =
    kind ∷ v.byte ∷ start ∷ v.annotations ∷ v.descriptor ∷ v.body ∷ v.end ∷ id ∷ []

-- "Marker: kind, 224, start, major, minor, end, end, 0." Kinds: "0 end, 1 marker, 2 value, 3 field, 9 refused".
abbrev pub item_words : Item → List ℕ
item_words (finish p) = end_words p
item_words (marker a major minor e) = 1 ∷ 224 ∷ a ∷ major ∷ minor ∷ e ∷ e ∷ 0 ∷ []
item_words (value v) = value_words 2 v.start v 0
item_words (field id a v) = value_words 3 a v id

abbrev pub words : Outcome Item → List ℕ
words (gives i) = item_words i
words (refuses number position) = refused_words number position

-- ---- the annotation step

-- kind 5, 0, the ID's start, the ID, 0, 0, its end, 0; at the end an end's record
abbrev pub annotation_words : ℕ → Outcome Annotated → List ℕ
annotation_words position (gives (ident id next)) = 5 ∷ 0 ∷ position ∷ id ∷ 0 ∷ 0 ∷ next ∷ 0 ∷ []
annotation_words position (gives finished) = end_words position
annotation_words position (refuses number at) = refused_words number at

-- ---- stepping in

-- a container's descriptor's position beside the body that it opens
pub record Entered : Type 0 where
  pub descriptor : ℕ
  pub body : Opened

abbrev pub entered_at : ℕ → Opened → Outcome Entered
entered_at at o = gives (record { descriptor = at; body = o })

abbrev pub enter : Spans → Outcome Entered
enter v = and_then (opened v) (entered_at v.descriptor)

-- kind 6, the body's rule set, the descriptor's position, 0, 0, the body's start and end, 0
abbrev pub body_words : Outcome Entered → List ℕ
body_words (gives e) = 6 ∷ part_kind e.body.rules ∷ e.descriptor ∷ 0 ∷ 0 ∷ e.body.body ∷ e.body.end ∷ 0 ∷ []
body_words (refuses number at) = refused_words number at

-- ---- the scalar reading

-- what a reading is
abbrev pub what_of : Scalar → ℕ
what_of (null t) = 0
what_of (bool b) = 1
what_of (whole n a b) = 2
what_of (float w) = 3
what_of (decimal a b) = 4
what_of (timestamp a b) = 5
what_of (symbol i) = 6
what_of (string a b) = 7
what_of (clob a b) = 8
what_of (blob a b) = 9
what_of container = 10

abbrev pub one_if : Bool → ℕ
one_if true = 1
one_if false = 0

-- its number: of a bool 0 or 1, of an int 1 where it is negative, a float's 64 bits, a symbol's ID, else 0
abbrev pub worth_of : Scalar → ℕ
worth_of (null t) = 0
worth_of (bool b) = one_if b
worth_of (whole n a b) = one_if n
worth_of (float w) = w
worth_of (decimal a b) = 0
worth_of (timestamp a b) = 0
worth_of (symbol i) = i
worth_of (string a b) = 0
worth_of (clob a b) = 0
worth_of (blob a b) = 0
worth_of container = 0

-- kind 7, the descriptor byte, the descriptor's position, what it is, its number, its part's start and end (equal where it has none), 0
abbrev pub scalar_words : Spans → Outcome Scalar → List ℕ
scalar_words v (gives x) =
    7 ∷ v.byte ∷ v.descriptor ∷ what_of x ∷ worth_of x ∷ (span_of (gives x)).start ∷ (span_of (gives x)).end ∷ 0 ∷ []
scalar_words v (refuses number at) = refused_words number at

abbrev pub reading_words : Outcome ReadValue → List ℕ
reading_words (gives r) = scalar_words r.value r.scalar
reading_words (refuses number at) = refused_words number at

-- ---- numbers: form 0 a VarUInt, 1 a VarInt, 2 an Int of the length given

-- a number as it was read: whether it is negative, its value or an Int's first seven bits, where an Int's further bytes start, and where it ends
pub record Number : Type 0 where
  pub negative : Bool
  pub value : ℕ
  pub rest : ℕ
  pub end : ℕ

abbrev pub of_unsigned : Unsigned → Outcome Number
of_unsigned u = gives (record { negative = false; value = u.value; rest = u.next; end = u.next })

abbrev pub of_signed : Signed → Outcome Number
of_signed n = gives (record { negative = n.negative; value = n.magnitude; rest = n.next; end = n.next })

abbrev pub of_fixed : Fixed → Outcome Number
of_fixed n = gives (record { negative = n.negative; value = n.first; rest = n.rest; end = n.end })

-- kind 8, 1 where it is negative, its position, its value, 0, the start of an Int's further bytes, its end, 0
abbrev pub number_words : ℕ → Outcome Number → List ℕ
number_words position (gives n) = 8 ∷ one_if n.negative ∷ position ∷ n.value ∷ 0 ∷ n.rest ∷ n.end ∷ 0 ∷ []
number_words position (refuses number at) = refused_words number at
