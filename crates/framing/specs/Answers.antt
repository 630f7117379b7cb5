-- The scope paper's "Length and value span", "Pad" and "Wrapper": what stands at a position of the part at..end of a slice. The tests stand in the paper's
-- order, each beside its refusal. A slice is read only by `var_uint` and by the descriptor at a position.
-- Assumes nothing.
use Rattle.std.specs.Prelude.{ℕ, ◌+◌, ◌-◌, Bool, true, false, not, List, get_or, ltb, eqb}
use Rattle.numbers.specs.Outcome.{Outcome, gives, pick, refuse_if, and_then, within}
use Rattle.numbers.specs.Answers.{Unsigned, var_uint}
use Rattle.numbers.specs.Descriptor.{descriptor_of}
use Rattle.numbers.specs.declared.type_descriptor.Kind.{Kind}
use Rattle.numbers.specs.declared.type_descriptor.Kind.TheVariants.{Value, Null, Pad, Marker, Wrapper, Reserved}
use Rattle.numbers.specs.declared.type_descriptor.TypeDescriptor.{TypeDescriptor}
use Rattle.framing.specs.Spans.{Spans, Padding}

-- An entry "tests 50", is refused with "1 at the part's end", and then looks at the descriptor that stands there.
unfoldable pub peeked_descriptor : List ℕ → ℕ → ℕ → Outcome TypeDescriptor
peeked_descriptor s at end = within s at end (refuse_if (eqb at end) 1 end (gives (descriptor_of (get_or s at 0))))

abbrev pub is_pad : Kind → Bool
is_pad Value = false
is_pad Null = false
is_pad Pad = true
is_pad Marker = false
is_pad Wrapper = false
is_pad Reserved = false

abbrev pub is_wrapper : Kind → Bool
is_wrapper Value = false
is_wrapper Null = false
is_wrapper Pad = false
is_wrapper Marker = false
is_wrapper Wrapper = true
is_wrapper Reserved = false

-- a descriptor of no value: neither a value's nor a null's
abbrev pub no_value : Kind → Bool
no_value Value = false
no_value Null = false
no_value Pad = true
no_value Marker = true
no_value Wrapper = true
no_value Reserved = true

-- a length, and where what has it begins
pub record Sized : Type 0 where
  pub body : ℕ
  pub size : ℕ

abbrev pub sized_by : Unsigned → Outcome Sized
sized_by u = gives (record { body = u.next; size = u.value })

-- "Codes 0 to 13 are the length; 14 reads a VarUInt; 15 is length 0": the length that a code tells, its VarUInt at `at` if it has one
unfoldable pub length_at : List ℕ → ℕ → ℕ → ℕ → Outcome Sized
length_at s at end code =
    pick (eqb code 15) (gives (record { body = at; size = 0 }))
    (pick (eqb code 14) (and_then (var_uint s at end) sized_by) (gives (record { body = at; size = code })))

-- "Null and bool: length 0 at every code. Struct code 1 (ordered) reads a VarUInt."
unfoldable pub value_code : ℕ → ℕ → ℕ
value_code type code = pick (ltb type 2) 0 (pick (eqb type 13) (pick (eqb code 1) 14 code) code)

-- 30: "float code outside 0, 4, 8, 15"
unfoldable pub bad_float : ℕ → ℕ → Bool
bad_float type code =
    pick (eqb type 4)
    (pick (eqb code 0) false (pick (eqb code 4) false (pick (eqb code 8) false (not (eqb code 15))))) false

-- 31: "non-null timestamp under 2 bytes"
unfoldable pub short_timestamp : ℕ → ℕ → ℕ → Bool
short_timestamp type code size = pick (eqb type 6) (pick (eqb code 15) false (ltb size 2)) false

-- 32: "empty ordered struct"
unfoldable pub empty_ordered : ℕ → ℕ → ℕ → Bool
empty_ordered type code size = pick (eqb type 13) (pick (eqb code 1) (eqb size 0) false) false

-- "then float, timestamp or ordered struct", at the value's descriptor
unfoldable pub length_tests : ℕ → ℕ → ℕ → Sized → Outcome Sized
length_tests at type code l =
    refuse_if (bad_float type code) 30 at
    (refuse_if (short_timestamp type code l.size) 31 at (refuse_if (empty_ordered type code l.size) 32 at (gives l)))

-- the length of the value whose descriptor is at `at`: "the VarUInt first"
unfoldable pub value_length : List ℕ → ℕ → ℕ → TypeDescriptor → Outcome Sized
value_length s at end d =
    and_then (length_at s (at + 1) end (value_code d.type_code d.length_code))
    (length_tests at d.type_code d.length_code)

-- "then whether the value fits": 8 at its descriptor
unfoldable pub fitting : ℕ → ℕ → ℕ → Sized → Outcome Spans
fitting at end byte l =
    refuse_if (ltb (end - l.body) l.size) 8 at
    (gives (record { byte = byte; start = at; annotations = at; descriptor = at; body = l.body; end = l.body + l.size }))

-- a value without annotations whose descriptor is at `at`: 22 at a byte that begins none
unfoldable pub value_without_annotations : List ℕ → ℕ → ℕ → TypeDescriptor → Outcome Spans
value_without_annotations s at end d =
    refuse_if (no_value d.kind) 22 at (and_then (value_length s at end d) (fitting at end (get_or s at 0)))

-- "that many unread bytes": 6 after its length
unfoldable pub padded : ℕ → Sized → Outcome Padding
padded end l =
    refuse_if (ltb (end - l.body) l.size) 6 l.body (gives (record { body = l.body; end = l.body + l.size }))

-- "Descriptor, length as above (1 is plain 1)"
unfoldable pub pad_at : List ℕ → ℕ → ℕ → TypeDescriptor → Outcome Padding
pad_at s at end d = and_then (length_at s (at + 1) end d.length_code) (padded end)

-- where a wrapper's annotations start, where its value stands, and how long its lengths say that this is
pub record Wrapping : Type 0 where
  pub annotations : ℕ
  pub value : ℕ
  pub expected : ℕ

-- "23, 24, 25, 5, 26", of the wrapper at `at`, its combined length and its annotations' length; by the change request A.10, "let 26 come before 5", and by
-- A.9 26 is "tested by the limits given": more annotation bytes than `limit`
unfoldable pub wrapper_tests : ℕ → ℕ → ℕ → Sized → Unsigned → Outcome Wrapping
wrapper_tests limit at end combined u =
    refuse_if (eqb u.value 0) 23 at
    (refuse_if (ltb combined.size (u.next - combined.body + u.value)) 24 at
    (refuse_if (eqb combined.size (u.next - combined.body + u.value)) 25 at
    (refuse_if (ltb limit u.value) 26 at
    (refuse_if (ltb (end - u.next) u.value) 5 u.next
    (gives
    (record {
      annotations = u.next;
      value = u.next + u.value;
      expected = combined.size - (u.next - combined.body + u.value);
    }))))))

-- then "the annotations' VarUInt"
unfoldable pub annotations_at : ℕ → List ℕ → ℕ → ℕ → Sized → Outcome Wrapping
annotations_at limit s at end combined = and_then (var_uint s combined.body end) (wrapper_tests limit at end combined)

-- "Combined length by code (15 counts as 0)", its VarUInt first
unfoldable pub wrapper_at : ℕ → List ℕ → ℕ → ℕ → TypeDescriptor → Outcome Wrapping
wrapper_at limit s at end d = and_then (length_at s (at + 1) end d.length_code) (annotations_at limit s at end)

-- "27, 28, the inner value's own tests", at the inner byte
unfoldable pub inner_value : List ℕ → ℕ → ℕ → TypeDescriptor → Outcome Spans
inner_value s at end d =
    refuse_if (is_wrapper d.kind) 27 at (refuse_if (is_pad d.kind) 28 at (value_without_annotations s at end d))

-- "29": the value's length differs from what its wrapper at `at` says
unfoldable pub wrapped : ℕ → Wrapping → Spans → Outcome Spans
wrapped at w v =
    refuse_if (not (eqb (v.end - v.descriptor) w.expected)) 29 at
    (gives
    (record {
      byte = v.byte;
      start = at;
      annotations = w.annotations;
      descriptor = v.descriptor;
      body = v.body;
      end = v.end;
    }))

-- "1" where nothing follows the annotations, then the value
unfoldable pub unwrapped : List ℕ → ℕ → ℕ → Wrapping → Outcome Spans
unwrapped s at end w =
    and_then (and_then (peeked_descriptor s w.value end) (inner_value s w.value end)) (wrapped at w)

unfoldable pub annotated_value : ℕ → List ℕ → ℕ → ℕ → TypeDescriptor → Outcome Spans
annotated_value limit s at end d = and_then (wrapper_at limit s at end d) (unwrapped s at end)

-- a value with or without a wrapper
unfoldable pub value_at : ℕ → List ℕ → ℕ → ℕ → TypeDescriptor → Outcome Spans
value_at limit s at end d = pick (is_wrapper d.kind) (annotated_value limit s at end d) (value_without_annotations s at end d)

-- what a step meets: a pad or a value
pub data Frame : Type 0 where
  padding : Padding → Frame
  valued : Spans → Frame

abbrev pub as_padding : Padding → Outcome Frame
as_padding p = gives (padding p)

abbrev pub as_valued : Spans → Outcome Frame
as_valued v = gives (valued v)

unfoldable pub frame_at : ℕ → List ℕ → ℕ → ℕ → TypeDescriptor → Outcome Frame
frame_at limit s at end d = pick (is_pad d.kind) (and_then (pad_at s at end d) as_padding) (and_then (value_at limit s at end d) as_valued)

-- The entries: a value, "22 at a pad or E0"; a pad or a value; and the readings that they are made of, 22 where the byte begins something else.
unfoldable pub read_value : ℕ → List ℕ → ℕ → ℕ → Outcome Spans
read_value limit s at end = and_then (peeked_descriptor s at end) (value_at limit s at end)

unfoldable pub read_frame : ℕ → List ℕ → ℕ → ℕ → Outcome Frame
read_frame limit s at end = and_then (peeked_descriptor s at end) (frame_at limit s at end)

unfoldable pub length_or_none : List ℕ → ℕ → ℕ → TypeDescriptor → Outcome Sized
length_or_none s at end d = refuse_if (no_value d.kind) 22 at (value_length s at end d)

unfoldable pub read_value_length : List ℕ → ℕ → ℕ → Outcome Sized
read_value_length s at end = and_then (peeked_descriptor s at end) (length_or_none s at end)

unfoldable pub pad_or_none : List ℕ → ℕ → ℕ → TypeDescriptor → Outcome Padding
pad_or_none s at end d = refuse_if (not (is_pad d.kind)) 22 at (pad_at s at end d)

unfoldable pub read_pad : List ℕ → ℕ → ℕ → Outcome Padding
read_pad s at end = and_then (peeked_descriptor s at end) (pad_or_none s at end)

unfoldable pub wrapper_or_none : ℕ → List ℕ → ℕ → ℕ → TypeDescriptor → Outcome Wrapping
wrapper_or_none limit s at end d = refuse_if (not (is_wrapper d.kind)) 22 at (wrapper_at limit s at end d)

unfoldable pub read_wrapper : ℕ → List ℕ → ℕ → ℕ → Outcome Wrapping
read_wrapper limit s at end = and_then (peeked_descriptor s at end) (wrapper_or_none limit s at end)

-- "`raw/annotations_iterator.rs` reads one VarUInt a step": an ID and where the next begins, or the end
pub data Annotated : Type 0 where
  ident : ℕ → ℕ → Annotated
  finished : Annotated

abbrev pub identified : Unsigned → Outcome Annotated
identified u = gives (ident u.value u.next)

unfoldable pub read_annotation : List ℕ → ℕ → ℕ → Outcome Annotated
read_annotation s at end = within s at end (pick (eqb at end) (gives finished) (and_then (var_uint s at end) identified))
