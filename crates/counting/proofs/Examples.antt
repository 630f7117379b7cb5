-- Worked examples of the count of IDs and of bounded steps; bytes are hexadecimal in the comments.
-- Assumes nothing.
use mathlib.Core.Path.{◌≡◌, refl}
use mathlib.Core.List.{List, [], ◌∷◌}
use Prim.Native.Nat.{ℕ}
use Rattle.numbers.specs.Format.{of_digits, var_uint_of}
use Rattle.numbers.specs.Outcome.{gives, refuses, outside_of}
use Rattle.numbers.specs.Answers.{last_among, last_byte, var_number, var_uint}
use Rattle.numbers.specs.Descriptor.{kind_of, descriptor_of}
use Rattle.framing.specs.Limits.{out_of_range}
use Rattle.framing.specs.Answers.{peeked_descriptor, length_at, value_code, bad_float, short_timestamp, empty_ordered, length_tests, value_length, fitting, value_without_annotations, padded, pad_at, value_at, frame_at, read_frame}
use Rattle.stepping.specs.Items.{finish, value}
use Rattle.stepping.specs.Answers.{framed_at, named_at, field_at, tile_at, skip_pads, found}
use Rattle.stepping.specs.Names.{followed, field_id}
use Rattle.stepping.specs.Runs.{cursor}
use Rattle.stepping.specs.declared.cursor.Rules.TheVariants.{Stream, Fields}
use Rattle.counting.specs.Pads.{begins_pad}
use Rattle.counting.specs.Counted.{unbegun, counted, ids_begun}
use Rattle.counting.specs.Bounded.{Bounded, reached, more, pad_next, stops_among, bounded_in, bounded}
use Rattle.counting.specs.BoundedRuns.{pads_met, repetitions}

-- the IDs begun by the step at the start of each body, with the limit 255, and by two that are refused before any ID
abbrev asked : List ℕ
asked =
    ids_begun 255 [] (cursor 0 0)
    ∷ ids_begun 255 (128 ∷ 0 ∷ []) (cursor 0 2)
    ∷ ids_begun 255 (0 ∷ []) (cursor 0 1)
    ∷ ids_begun 255 (128 ∷ 1 ∷ []) (cursor 0 2)
    ∷ ids_begun 255 (128 ∷ []) (cursor 0 1)
    ∷ ids_begun 255 (128 ∷ 32 ∷ []) (cursor 0 2)
    ∷ ids_begun 255 (128 ∷ 0 ∷ 129 ∷ 0 ∷ 130 ∷ 32 ∷ []) (cursor 0 6)
    ∷ ids_begun 255 (128 ∷ 0 ∷ []) (cursor 0 3)
    ∷ ids_begun 254 (128 ∷ 0 ∷ []) (cursor 0 2)
    ∷ []

-- an empty body: none; 80 00, a pad up to the end: 1; 00, an ID that is cut: 1; 80 01, a pad that is cut: 1; 80, an ID with nothing behind it: 1; 80 20, a
-- field: 1; 80 00 81 00 82 20, a field behind two pads: 3; a part outside, and a limit that is none: none
pub ids_asked : asked ≡ 0 ∷ 1 ∷ 1 ∷ 1 ∷ 1 ∷ 1 ∷ 3 ∷ 0 ∷ 0 ∷ []
unfolding counted found skip_pads tile_at field_at named_at var_uint var_number last_byte last_among var_uint_of of_digits read_frame peeked_descriptor frame_at pad_at padded value_at value_without_annotations value_length length_at length_tests value_code bad_float short_timestamp empty_ordered fitting descriptor_of kind_of outside_of out_of_range
ids_asked = refl

-- bounded steps in streams and in struct bodies
abbrev bounds : List Bounded
bounds =
    bounded 255 1 Stream (0 ∷ 1 ∷ []) (cursor 0 2)
    ∷ bounded 255 1 Stream (0 ∷ 1 ∷ []) (cursor 1 2)
    ∷ bounded 255 1 Stream (0 ∷ []) (cursor 0 1)
    ∷ bounded 255 2 Stream (0 ∷ 0 ∷ 0 ∷ 32 ∷ []) (cursor 0 4)
    ∷ bounded 255 3 Stream (0 ∷ 0 ∷ 0 ∷ 32 ∷ []) (cursor 0 4)
    ∷ bounded 255 1 Fields (128 ∷ 0 ∷ 128 ∷ 0 ∷ []) (cursor 0 4)
    ∷ bounded 255 1 Fields (128 ∷ 0 ∷ 0 ∷ []) (cursor 0 3)
    ∷ bounded 255 1 Fields (128 ∷ 0 ∷ 128 ∷ []) (cursor 0 3)
    ∷ bounded 255 0 Stream [] (cursor 0 0)
    ∷ bounded 255 0 Stream [] (cursor 0 1)
    ∷ bounded 254 0 Stream [] (cursor 0 1)
    ∷ []

-- 00 01 past one pad: the next pad's length isn't read, and the repeated step is refused with 6; 00: the end; 00 00 00 20 past two pads and past three;
-- 80 00 80 00: before the next ID; 80 00 00, an ID that is cut, and 80 00 80, one with nothing behind it: 3 and 7; a largest number of 0: 67, 50 before it and 68 before both
pub bounds_given :
    bounds
    ≡ more 1 1
    ∷ reached (record { answer = refuses 6 2; pads = 0; names = 1 })
    ∷ reached (record { answer = gives (finish 1); pads = 1; names = 1 })
    ∷ more 2 2
    ∷ reached (record { answer = gives (value (record { byte = 32; start = 3; annotations = 3; descriptor = 3; body = 4; end = 4 })); pads = 3; names = 4 })
    ∷ more 1 2
    ∷ reached (record { answer = refuses 3 3; pads = 1; names = 2 })
    ∷ reached (record { answer = refuses 7 3; pads = 1; names = 2 })
    ∷ reached (unbegun 67)
    ∷ reached (unbegun 50)
    ∷ reached (unbegun 68)
    ∷ []
unfolding bounded bounded_in stops_among pad_next begins_pad followed field_id counted found skip_pads tile_at framed_at field_at named_at var_uint var_number last_byte last_among var_uint_of of_digits read_frame peeked_descriptor frame_at pad_at padded value_at value_without_annotations value_length length_at length_tests value_code bad_float short_timestamp empty_ordered fitting descriptor_of kind_of outside_of out_of_range
bounds_given = refl

-- three pads, two to a call: one answer of kind 4; two pads: none; two pads and one that is cut: one
abbrev repeated : List ℕ
repeated =
    repetitions 255 2 Stream (0 ∷ 0 ∷ 0 ∷ []) (cursor 0 3) ∷ repetitions 255 2 Stream (0 ∷ 0 ∷ []) (cursor 0 2) ∷ repetitions 255 2 Stream (0 ∷ 0 ∷ 1 ∷ []) (cursor 0 3) ∷ []

pub repeated_so_often : repeated ≡ 1 ∷ 0 ∷ 1 ∷ []
unfolding pads_met pad_next begins_pad followed field_id found skip_pads tile_at framed_at read_frame peeked_descriptor frame_at pad_at padded value_at value_without_annotations length_at descriptor_of kind_of outside_of out_of_range
repeated_so_often = refl
