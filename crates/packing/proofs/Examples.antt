-- Worked examples of packed maps, by computation.
-- Assumes nothing.
use Prim.Native.Nat.{ℕ}
use mathlib.Core.Path.{◌≡◌, refl}
use mathlib.Core.List.{List, [], ◌∷◌, map}
use Rattle.numbers.specs.Answers.{last_among, last_byte, var_number, var_uint}
use Rattle.numbers.specs.Format.{of_digits, var_uint_of}
use Rattle.numbers.specs.Outcome.{outside_of}
use Rattle.numbers.specs.Descriptor.{kind_of, descriptor_of}
use Rattle.framing.specs.Limits.{out_of_range}
use Rattle.framing.specs.Answers.{peeked_descriptor, length_at, value_code, bad_float, short_timestamp, empty_ordered, length_tests, value_length, fitting, value_without_annotations, padded, pad_at, wrapper_tests, annotations_at, wrapper_at, inner_value, wrapped, unwrapped, annotated_value, value_at, frame_at, read_frame}
use Rattle.stepping.specs.Answers.{marker_at, framed_at, named_at, field_at, tile_at, skip_pads, found, step_of}
use Rattle.values.specs.Scalars.{is_container}
use Rattle.encoding.specs.Fields.{var_uint_in, fewest, var_uint_size, var_uint_bytes}
use Rattle.encoding.specs.Heads.{head_code, head_byte, head_bytes, typed_bytes, wrapped_bytes, wrapper_bytes}
use Rattle.packing.specs.Tree.{lengthless, kept_byte, header_of, wrapping, written, bytes_of}
use Rattle.packing.specs.Packed.{node_of, tree_in, tree_of, packed}

-- the maps, and what they become: an ordered struct under 14 bytes; one of pads alone, in a wrapper; bodies, which stay; lengths behind a VarUInt that fit into
-- the code; the annotations' length; an ordered struct's length, a field ID, an annotation ID; a null of a negative int; pads and a marker
abbrev maps : List (List ℕ)
maps =
    (209 ∷ 130 ∷ 132 ∷ 32 ∷ [])
    ∷ (230 ∷ 129 ∷ 132 ∷ 209 ∷ 130 ∷ 132 ∷ 0 ∷ [])
    ∷ (35 ∷ 0 ∷ 0 ∷ 1 ∷ [])
    ∷ (94 ∷ 128 ∷ 46 ∷ 129 ∷ 7 ∷ [])
    ∷ (228 ∷ 0 ∷ 129 ∷ 132 ∷ 32 ∷ [])
    ∷ (209 ∷ 0 ∷ 131 ∷ 0 ∷ 132 ∷ 32 ∷ 228 ∷ 130 ∷ 0 ∷ 132 ∷ 32 ∷ [])
    ∷ (63 ∷ [])
    ∷ (0 ∷ 224 ∷ 1 ∷ 0 ∷ 234 ∷ 213 ∷ 132 ∷ 0 ∷ 133 ∷ 33 ∷ 7 ∷ 1 ∷ 9 ∷ [])
    ∷ []

abbrev becomes : List (List ℕ)
becomes =
    (209 ∷ 130 ∷ 132 ∷ 32 ∷ [])
    ∷ (227 ∷ 129 ∷ 132 ∷ 208 ∷ [])
    ∷ (35 ∷ 0 ∷ 0 ∷ 1 ∷ [])
    ∷ (80 ∷ 33 ∷ 7 ∷ [])
    ∷ (227 ∷ 129 ∷ 132 ∷ 32 ∷ [])
    ∷ (209 ∷ 131 ∷ 0 ∷ 132 ∷ 32 ∷ 228 ∷ 130 ∷ 0 ∷ 132 ∷ 32 ∷ [])
    ∷ (63 ∷ [])
    ∷ (224 ∷ 1 ∷ 0 ∷ 234 ∷ 211 ∷ 133 ∷ 33 ∷ 7 ∷ [])
    ∷ []

pub examples : map (packed 255) maps ≡ becomes
unfolding last_among last_byte var_number var_uint of_digits var_uint_of outside_of kind_of descriptor_of out_of_range peeked_descriptor length_at value_code bad_float short_timestamp empty_ordered length_tests value_length fitting value_without_annotations padded pad_at wrapper_tests annotations_at wrapper_at inner_value wrapped unwrapped annotated_value value_at frame_at read_frame marker_at framed_at named_at field_at tile_at skip_pads found step_of is_container var_uint_in fewest var_uint_size var_uint_bytes head_code head_byte head_bytes typed_bytes wrapped_bytes wrapper_bytes lengthless kept_byte header_of wrapping written bytes_of node_of tree_in tree_of packed
examples = refl
