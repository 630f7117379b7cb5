-- What each answer of a framing says in the scope paper's terms: its spans, or its refusal's number and position.
-- Assumes nothing.
use Rattle.std.specs.Prelude.{ℕ, ◌+◌, Option, Some, None, Result}
use Rattle.numbers.specs.Outcome.{Outcome}
use Rattle.numbers.specs.Read.{outcome}
use Rattle.numbers.specs.declared.refusal.Refusal.{Refusal}
use Rattle.framing.specs.Answers.{Sized, Wrapping, Frame, padding, valued, Annotated, ident, finished}
use Rattle.framing.specs.Spans.{Spans, Padding}
use Rattle.framing.specs.ShortValue.{ShortValue, short_value, no_short_value, bare_spans}
use Rattle.framing.specs.declared.encoded_value.EncodedValue.{EncodedValue}
use Rattle.framing.specs.declared.encoded_value.Length.{Length}
use Rattle.framing.specs.declared.encoded_value.NopPad.{NopPad}
use Rattle.framing.specs.declared.encoded_value.AnnotationsWrapper.{AnnotationsWrapper}
use Rattle.framing.specs.declared.encoded_value.Frame.{Frame as FrameEnum}
use Rattle.framing.specs.declared.encoded_value.Frame.TheVariants.{Pad as FramePad, Value as FrameValue}
use Rattle.framing.specs.declared.annotations_iterator.Annotation.{Annotation}

abbrev pub spans_of : EncodedValue → Spans
spans_of v =
    record {
      byte = v.byte;
      start = v.start;
      annotations = v.annotations;
      descriptor = v.descriptor;
      body = v.body;
      end = v.end;
    }

abbrev pub sized_of : Length → Sized
sized_of l = record { body = l.body; size = l.size }

abbrev pub length_read : Result Length Refusal → Outcome Sized
length_read = outcome sized_of

abbrev pub padding_of : NopPad → Padding
padding_of p = record { body = p.body; end = p.end }

abbrev pub pad_read : Result NopPad Refusal → Outcome Padding
pad_read = outcome padding_of

abbrev pub wrapping_of : AnnotationsWrapper → Wrapping
wrapping_of w = record { annotations = w.annotations; value = w.value; expected = w.expected }

abbrev pub wrapper_read : Result AnnotationsWrapper Refusal → Outcome Wrapping
wrapper_read = outcome wrapping_of

abbrev pub framed_read : Result EncodedValue Refusal → Outcome Spans
framed_read = outcome spans_of

abbrev pub frame_of : FrameEnum → Frame
frame_of (FramePad p) = padding (padding_of p)
frame_of (FrameValue v) = valued (spans_of v)

abbrev pub frame_read : Result FrameEnum Refusal → Outcome Frame
frame_read = outcome frame_of

-- of the value at `at` with this descriptor byte
abbrev pub short_value_read : ℕ → ℕ → Option Length → ShortValue
short_value_read byte at (Some l) = short_value (bare_spans byte at l.body (l.body + l.size))
short_value_read byte at None = no_short_value

abbrev pub annotated_of : Option Annotation → Annotated
annotated_of (Some a) = ident a.id a.next
annotated_of None = finished

abbrev pub annotation_read : Result (Option Annotation) Refusal → Outcome Annotated
annotation_read = outcome annotated_of
