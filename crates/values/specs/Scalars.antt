-- The scope paper's "Scalars", and stepping into a container: what the entries on a value answer.
-- Assumes nothing.
use Rattle.std.specs.Prelude.{ℕ, ◌-◌, ◌/◌, ◌%◌, Bool, true, false, not, List, ltb, eqb}
use Rattle.numbers.specs.Outcome.{Outcome, gives, refuses, pick, refuse_if, and_then, within}
use Rattle.numbers.specs.Bytes.{part}
use Rattle.framing.specs.Spans.{Spans}
use Rattle.framing.specs.Limits.{limited}
use Rattle.framing.specs.Answers.{read_value}
use Rattle.bodies.specs.Utf8.{utf8}
use Rattle.bodies.specs.Widen.{widen_of}
use Rattle.bodies.specs.Uint.{uint_in}
use Rattle.bodies.specs.Magnitude.{significant_from}
use Rattle.stepping.specs.declared.cursor.Rules.{Rules}
use Rattle.stepping.specs.declared.cursor.Rules.TheVariants.{Sequence, Fields}
use Rattle.values.specs.declared.value.Span.{Span}

-- "An entry on a value takes the part and the position of the value's wrapper or descriptor, tests 50, then frames the value afresh with the framing's
-- refusals." The part is start..end. By the change request A.9 an entry tests 68 before 50.
unfoldable pub value_in : ℕ → List ℕ → ℕ → ℕ → ℕ → Outcome Spans
value_in limit s start end at = limited limit (refuse_if (ltb at start) 50 0 (read_value limit s at end))

-- the type and length codes of a value's descriptor
abbrev pub type_of : Spans → ℕ
type_of v = v.byte / 16

abbrev pub code_of : Spans → ℕ
code_of v = v.byte % 16

-- a list, a sexp or a struct, and not null
unfoldable pub is_container : Spans → Bool
is_container v = pick (eqb (code_of v) 15) false (ltb 10 (type_of v))

-- the rules of a container's body: a struct's is of fields
abbrev pub body_rules : Spans → Rules
body_rules v = pick (eqb (type_of v) 13) Fields Sequence

-- the part that stepping in opens, and its rules
pub record Opened : Type 0 where
  pub rules : Rules
  pub body : ℕ
  pub end : ℕ

-- "52 stepping into what isn't a container or is null, its descriptor"
unfoldable pub opened : Spans → Outcome Opened
opened v =
    refuse_if (not (is_container v)) 52 v.descriptor (gives (record { rules = body_rules v; body = v.body; end = v.end }))

unfoldable pub step_in : ℕ → List ℕ → ℕ → ℕ → ℕ → Outcome Opened
step_in limit s start end at = and_then (value_in limit s start end at) opened

-- what a value is read as: a null of a type, a bool, an int's sign and the span of its magnitude, a float's 64 bits, a symbol's ID, the spans of bodies, or
-- that it is a container
pub data Scalar : Type 0 where
  null : ℕ → Scalar
  bool : Bool → Scalar
  int : Bool → ℕ → ℕ → Scalar
  float : ℕ → Scalar
  decimal : ℕ → ℕ → Scalar
  timestamp : ℕ → ℕ → Scalar
  symbol : ℕ → Scalar
  string : ℕ → ℕ → Scalar
  clob : ℕ → ℕ → Scalar
  blob : ℕ → ℕ → Scalar
  container : Scalar

-- "A null gives its type": its type code, one for both signs of an int
abbrev pub null_of : Spans → Outcome Scalar
null_of v = gives (null (pick (eqb (type_of v) 3) 2 (type_of v)))

-- "Bool 0 or 1"; 33 "bool code 2 to 14"
unfoldable pub bool_of : Spans → Outcome Scalar
bool_of v = refuse_if (ltb 1 (code_of v)) 33 v.descriptor (gives (bool (eqb (code_of v) 1)))

-- "An integer magnitude is the matching part of the caller's slice, without leading zero bytes"; 34 "negative int of zero"
unfoldable pub positive_of : List ℕ → Spans → Outcome Scalar
positive_of s v = gives (int false (significant_from s v.body v.end) v.end)

unfoldable pub negative_of : List ℕ → Spans → Outcome Scalar
negative_of s v =
    refuse_if (eqb (significant_from s v.body v.end) v.end) 34 v.descriptor
    (gives (int true (significant_from s v.body v.end) v.end))

-- "Float: length 0 is positive zero; 4 and 8 are big-endian IEEE numbers, given as 64 bits"
unfoldable pub float_of : List ℕ → Spans → Outcome Scalar
float_of s v =
    pick (eqb (v.end - v.body) 0) (gives (float 0))
    (pick (eqb (v.end - v.body) 4) (gives (float (widen_of (uint_in s v.body v.end))))
    (gives (float (uint_in s v.body v.end))))

-- "Symbol: up to 8 bytes, big-endian"; 35 "symbol over 8 bytes"
unfoldable pub symbol_of : List ℕ → Spans → Outcome Scalar
symbol_of s v =
    refuse_if (ltb 8 (v.end - v.body)) 35 v.descriptor (gives (symbol (uint_in s v.body v.end)))

-- 36 "bad UTF-8"
unfoldable pub string_of : List ℕ → Spans → Outcome Scalar
string_of s v = refuse_if (not (utf8 s v.body v.end)) 36 v.descriptor (gives (string v.body v.end))

-- by the type code of a value that is no null: "decimal and timestamp their body; containers say that they are one"
unfoldable pub typed_of : List ℕ → Spans → ℕ → Outcome Scalar
typed_of s v type =
    pick (eqb type 1) (bool_of v)
    (pick (eqb type 2) (positive_of s v)
    (pick (eqb type 3) (negative_of s v)
    (pick (eqb type 4) (float_of s v)
    (pick (eqb type 5) (gives (decimal v.body v.end))
    (pick (eqb type 6) (gives (timestamp v.body v.end))
    (pick (eqb type 7) (symbol_of s v)
    (pick (eqb type 8) (string_of s v)
    (pick (eqb type 9) (gives (clob v.body v.end))
    (pick (eqb type 10) (gives (blob v.body v.end)) (gives container))))))))))

unfoldable pub scalar_of : List ℕ → Spans → Outcome Scalar
scalar_of s v = pick (eqb (code_of v) 15) (null_of v) (typed_of s v (type_of v))

-- of a value whose places are known: 50 where its body is no part of the slice
unfoldable pub scalar_in : List ℕ → Spans → Outcome Scalar
scalar_in s v = within s v.body v.end (scalar_of s v)

unfoldable pub read_scalar : ℕ → List ℕ → ℕ → ℕ → ℕ → Outcome Scalar
read_scalar limit s start end at = and_then (value_in limit s start end at) (scalar_of s)

-- a value's spans with its reading
pub record ReadValue : Type 0 where
  pub value : Spans
  pub scalar : Outcome Scalar

abbrev pub with_value : List ℕ → Spans → Outcome ReadValue
with_value s v = gives (record { value = v; scalar = scalar_of s v })

unfoldable pub read_with_value : ℕ → List ℕ → ℕ → ℕ → ℕ → Outcome ReadValue
read_with_value limit s start end at = and_then (value_in limit s start end at) (with_value s)

-- the span of a reading's part: a string's, a clob's, a blob's, a decimal's or a timestamp's body, or an int's magnitude; the empty one at 0 where it has
-- none or is refused
abbrev pub spanned : ℕ → ℕ → Span
spanned a b = record { start = a; end = b }

abbrev pub span_of : Outcome Scalar → Span
span_of (gives (null t)) = spanned 0 0
span_of (gives (bool b)) = spanned 0 0
span_of (gives (int n a b)) = spanned a b
span_of (gives (float w)) = spanned 0 0
span_of (gives (decimal a b)) = spanned a b
span_of (gives (timestamp a b)) = spanned a b
span_of (gives (symbol i)) = spanned 0 0
span_of (gives (string a b)) = spanned a b
span_of (gives (clob a b)) = spanned a b
span_of (gives (blob a b)) = spanned a b
span_of (gives container) = spanned 0 0
span_of (refuses number position) = spanned 0 0

-- its bytes: "empty where the first refuses"
abbrev pub part_of : List ℕ → Outcome Scalar → List ℕ
part_of s o = part s (span_of o).start (span_of o).end

unfoldable pub scalar_part : ℕ → List ℕ → ℕ → ℕ → ℕ → List ℕ
scalar_part limit s start end at = part_of s (read_scalar limit s start end at)
