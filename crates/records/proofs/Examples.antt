-- The words of worked runs of steps. Bytes are hexadecimal in the comments.
-- Assumes nothing.
use Prim.Native.Nat.{ℕ}
use mathlib.Core.Path.{◌≡◌, refl}
use mathlib.Core.List.{List, [], ◌∷◌, map}
use Rattle.numbers.specs.Format.{of_digits, var_uint_of}
use Rattle.numbers.specs.Outcome.{outside_of}
use Rattle.numbers.specs.Answers.{last_among, last_byte, var_number, var_uint}
use Rattle.numbers.specs.Descriptor.{kind_of, descriptor_of}
use Rattle.framing.specs.Limits.{out_of_range}
use Rattle.framing.specs.Answers.{peeked_descriptor, length_at, value_code, bad_float, short_timestamp, empty_ordered, length_tests, value_length, fitting, value_without_annotations, padded, pad_at, value_at, frame_at, read_frame}
use Rattle.stepping.specs.Answers.{marker_at, framed_at, named_at, field_at, tile_at, skip_pads, found, Stepped, step_of}
use Rattle.stepping.specs.Runs.{cursor}
use Rattle.stepping.specs.declared.cursor.Rules.TheVariants.{Stream, Sequence, Fields}
use Rattle.stepping.proofs.Examples.{calls, marked, padded_struct, refused_list}
use Rattle.records.specs.Words.{words}

-- the words of an answer
abbrev words_of : Stepped → List ℕ
words_of r = words r.answer

-- a pad, a marker and a list: 00 E0 01 00 EA B1 20
pub marked_words :
    map words_of (calls 255 3 Stream marked (cursor 0 7))
    ≡ (1 ∷ 224 ∷ 1 ∷ 1 ∷ 0 ∷ 5 ∷ 5 ∷ 0 ∷ 0 ∷ []) ∷ (2 ∷ 177 ∷ 5 ∷ 5 ∷ 5 ∷ 6 ∷ 7 ∷ 0 ∷ 1 ∷ []) ∷ (0 ∷ 0 ∷ 7 ∷ 0 ∷ 0 ∷ 0 ∷ 0 ∷ 0 ∷ 0 ∷ []) ∷ []
unfolding calls step_of found skip_pads tile_at marker_at framed_at read_frame peeked_descriptor frame_at pad_at padded value_at value_without_annotations value_length length_at length_tests value_code bad_float short_timestamp empty_ordered fitting descriptor_of kind_of outside_of out_of_range
marked_words = refl

-- the body of D5 84 00 85 21 07: a pad with its field ID, field 5
pub struct_words : map words_of (calls 255 1 Fields padded_struct (cursor 1 6)) ≡ (3 ∷ 33 ∷ 3 ∷ 4 ∷ 4 ∷ 5 ∷ 6 ∷ 5 ∷ 1 ∷ []) ∷ []
unfolding calls step_of found skip_pads tile_at field_at named_at var_uint var_number last_byte last_among var_uint_of of_digits read_frame peeked_descriptor frame_at pad_at padded value_at value_without_annotations value_length length_at length_tests value_code bad_float short_timestamp empty_ordered fitting descriptor_of kind_of outside_of out_of_range
struct_words = refl

-- the body of B2 00 E0: E0 is refused
pub refused-words : map words_of (calls 255 1 Sequence refused_list (cursor 1 3)) ≡ (9 ∷ 22 ∷ 2 ∷ 0 ∷ 0 ∷ 0 ∷ 0 ∷ 0 ∷ 0 ∷ []) ∷ []
unfolding calls step_of found skip_pads tile_at framed_at read_frame peeked_descriptor frame_at pad_at padded value_at value_without_annotations length_at descriptor_of kind_of outside_of out_of_range
refused-words = refl
