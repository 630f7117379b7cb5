-- The starred entries of the scope paper's "Maps at the edges": each is what the definitions compute.
-- Assumes nothing.
use mathlib.Core.Path.{refl}
use Rattle.numbers.specs.Format.{of_digits, var_uint_of, var_int_negative, var_int_magnitude}
use Rattle.numbers.specs.Outcome.{outside_of}
use Rattle.numbers.specs.Answers.{last_among, last_byte, var_number, var_uint, var_int}
use Rattle.numbers.specs.Descriptor.{kind_of, descriptor_of}
use Rattle.framing.specs.Limits.{out_of_range}
use Rattle.framing.specs.Answers.{peeked_descriptor, length_at, value_code, bad_float, short_timestamp, empty_ordered, length_tests, value_length, fitting, value_without_annotations, padded, pad_at, wrapper_tests, annotations_at, wrapper_at, inner_value, wrapped, unwrapped, annotated_value, value_at, frame_at, read_value, read_frame, read_annotation}
use Rattle.bodies.specs.Magnitude.{nonzero_among, significant_from}
use Rattle.stepping.specs.Answers.{marker_at, framed_at, named_at, field_at, tile_at, skip_pads, found}
use Rattle.values.specs.Scalars.{value_in, is_container, opened, step_in, positive_of, negative_of, typed_of, scalar_of, read_scalar}
use Rattle.values.specs.Edges.{Edges}

pub edges : Edges
unfolding of_digits var_uint_of var_int_negative var_int_magnitude outside_of last_among last_byte var_number var_uint var_int kind_of descriptor_of peeked_descriptor length_at value_code bad_float short_timestamp empty_ordered length_tests value_length fitting value_without_annotations padded pad_at wrapper_tests annotations_at wrapper_at inner_value wrapped unwrapped annotated_value value_at frame_at read_value read_frame read_annotation marker_at framed_at named_at field_at tile_at skip_pads found value_in is_container opened step_in positive_of negative_of typed_of scalar_of read_scalar nonzero_among significant_from out_of_range
edges = (refl, (refl, (refl, (refl, (refl, (refl, (refl, (refl, (refl, (refl, (refl, (refl, (refl, (refl, (refl, (refl, (refl, (refl, tt))))))))))))))))))
