-- How the private reading of a value takes it apart, so that a value with a wrapper and one without are read by one piece of code: first where the value
-- stands, then the value. `Location.value_located` in `proofs/` says that the two make `value_at`; callers of the crate need none of this.
-- Assumes nothing.
use Rattle.std.specs.Prelude.{ℕ, ◌+◌, ◌-◌, Bool, false, not, List, get_or, ltb, eqb, Result}
use Rattle.numbers.specs.Outcome.{Outcome, gives, pick, refuse_if, and_then}
use Rattle.numbers.specs.Read.{outcome}
use Rattle.numbers.specs.declared.refusal.Refusal.{Refusal}
use Rattle.numbers.specs.declared.type_descriptor.TypeDescriptor.{TypeDescriptor}
use Rattle.framing.specs.Answers.{peeked_descriptor, is_pad, is_wrapper, no_value, Sized, value_length, Wrapping, wrapper_at}
use Rattle.framing.specs.Spans.{Spans}
use Rattle.framing.specs.declared.annotations_wrapper.Located.{Located}

-- where a value's annotations start, where it stands, how long its wrapper says that it is (0 where it has none), and its descriptor
pub record Location : Type 0 where
  pub annotations : ℕ
  pub value : ℕ
  pub expected : ℕ
  pub descriptor : TypeDescriptor

abbrev pub location_of : Located → Location
location_of l =
    record { annotations = l.annotations; value = l.value.at; expected = l.expected; descriptor = l.value.descriptor }

abbrev pub located_read : Result Located Refusal → Outcome Location
located_read = outcome location_of

-- "27, 28", and 22 at a byte that begins no value, at the inner byte
unfoldable pub inner_tests : Wrapping → TypeDescriptor → Outcome Location
inner_tests w d =
    refuse_if (is_wrapper d.kind) 27 w.value
    (refuse_if (is_pad d.kind) 28 w.value
    (refuse_if (no_value d.kind) 22 w.value
    (gives (record { annotations = w.annotations; value = w.value; expected = w.expected; descriptor = d }))))

unfoldable pub inner_at : List ℕ → ℕ → Wrapping → Outcome Location
inner_at s end w = and_then (peeked_descriptor s w.value end) (inner_tests w)

unfoldable pub location_in_wrapper : ℕ → List ℕ → ℕ → ℕ → TypeDescriptor → Outcome Location
location_in_wrapper limit s at end d = and_then (wrapper_at limit s at end d) (inner_at s end)

unfoldable pub location_at : ℕ → List ℕ → ℕ → ℕ → TypeDescriptor → Outcome Location
location_at limit s at end d =
    pick (is_wrapper d.kind) (location_in_wrapper limit s at end d)
    (refuse_if (no_value d.kind) 22 at (gives (record { annotations = at; value = at; expected = 0; descriptor = d })))

-- a length that is not the one expected, where one is
unfoldable pub differs_from : ℕ → ℕ → Bool
differs_from expected size = pick (eqb expected 0) false (not (eqb size expected))

-- 8 at the value's descriptor, 29 at the wrapper
unfoldable pub fitted : ℕ → ℕ → ℕ → ℕ → ℕ → ℕ → Sized → Outcome Spans
fitted at end annotations value expected byte l =
    refuse_if (ltb (end - l.body) l.size) 8 value
    (refuse_if (differs_from expected (l.body + l.size - value)) 29 at
    (gives
    (record {
      byte = byte;
      start = at;
      annotations = annotations;
      descriptor = value;
      body = l.body;
      end = l.body + l.size;
    })))

unfoldable pub located_value : List ℕ → ℕ → ℕ → Location → Outcome Spans
located_value s at end o =
    and_then (value_length s o.value end o.descriptor)
    (fitted at end o.annotations o.value o.expected (get_or s o.value 0))
