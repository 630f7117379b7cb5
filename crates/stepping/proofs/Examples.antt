-- Worked examples of runs: what several calls answer, each call with the cursor that the one before left, as one list that the definitions compute; and the
-- pads passed. Bytes are hexadecimal in the comments.
-- Assumes nothing.
use Prim.Native.Nat.{ℕ, zero, suc}
use mathlib.Core.Path.{◌≡◌, refl}
use mathlib.Core.List.{List, [], ◌∷◌}
use Rattle.numbers.specs.Format.{of_digits, var_uint_of}
use Rattle.numbers.specs.Outcome.{gives, refuses, outside_of}
use Rattle.numbers.specs.Answers.{last_among, last_byte, var_number, var_uint}
use Rattle.numbers.specs.Descriptor.{kind_of, descriptor_of}
use Rattle.framing.specs.Limits.{out_of_range}
use Rattle.framing.specs.Answers.{peeked_descriptor, length_at, value_code, bad_float, short_timestamp, empty_ordered, length_tests, value_length, fitting, value_without_annotations, padded, pad_at, value_at, frame_at, read_frame}
use Rattle.stepping.specs.Items.{finish, marker, value, field}
use Rattle.stepping.specs.Answers.{marker_at, framed_at, named_at, field_at, tile_at, skip_pads, found, Stepped, step_of}
use Rattle.stepping.specs.Runs.{cursor, Answers, Run, none, call, skipped, handed, Tiles}
use Rattle.stepping.specs.declared.cursor.Cursor.{Cursor}
use Rattle.stepping.specs.declared.cursor.Rules.{Rules}
use Rattle.stepping.specs.declared.cursor.Rules.TheVariants.{Stream, Sequence, Fields}
use Rattle.stepping.proofs.Tiling.{tiling}

-- the answers to n calls from the cursor c on, with this limit of annotation bytes
abbrev onward : (Cursor → List Stepped) → Stepped → List Stepped
onward go r = r ∷ go r.next

unfoldable pub calls : ℕ → ℕ → Rules → List ℕ → Cursor → List Stepped
calls limit zero rules s c = []
calls limit (suc n) rules s c = onward (calls limit n rules s) (step_of limit rules s c)

-- they are a run
pub calls_run : (limit n : ℕ) (rules : Rules) (s : List ℕ) (c : Cursor) → Run (Answers limit rules s) c (calls limit n rules s c)
unfolding calls
calls_run limit zero rules s c = none
calls_run limit (suc n) rules s c = call refl (calls_run limit n rules s (step_of limit rules s c).next)

-- a pad, a marker and a list: 00 E0 01 00 EA B1 20
abbrev pub marked : List ℕ
marked = 0 ∷ 224 ∷ 1 ∷ 0 ∷ 234 ∷ 177 ∷ 32 ∷ []

pub marked_run :
    calls 255 4 Stream marked (cursor 0 7)
    ≡ record { answer = gives (marker 1 1 0 5); next = cursor 5 7 }
    ∷ record { answer = gives (value (record { byte = 177; start = 5; annotations = 5; descriptor = 5; body = 6; end = 7 })); next = cursor 7 7 }
    ∷ record { answer = gives (finish 7); next = cursor 7 7 }
    ∷ record { answer = gives (finish 7); next = cursor 7 7 }
    ∷ []
unfolding calls step_of found skip_pads tile_at marker_at framed_at read_frame peeked_descriptor frame_at pad_at padded value_at value_without_annotations value_length length_at length_tests value_code bad_float short_timestamp empty_ordered fitting descriptor_of kind_of outside_of out_of_range
marked_run = refl

-- what these calls hand out tiles the part, with the pad before the marker
pub marked_tiled :
    Tiles 255 Stream marked 7 0
    (skipped (record { start = 0; body = 1; end = 1 })
    ∷ handed (marker 1 1 0 5)
    ∷ handed (value (record { byte = 177; start = 5; annotations = 5; descriptor = 5; body = 6; end = 7 }))
    ∷ [])
    7
unfolding calls step_of found skip_pads tile_at marker_at framed_at read_frame peeked_descriptor frame_at pad_at padded value_at value_without_annotations value_length length_at length_tests value_code bad_float short_timestamp empty_ordered fitting descriptor_of kind_of outside_of out_of_range
marked_tiled = (tiling 255 Stream marked 0 7 (calls 255 4 Stream marked (cursor 0 7)) (calls_run 255 4 Stream marked (cursor 0 7))).up_to_last

-- a struct, D5 84 00 85 21 07, and its body: the pad at 1..3 with its field ID, field 5 at 3..6, the end
abbrev pub padded_struct : List ℕ
padded_struct = 213 ∷ 132 ∷ 0 ∷ 133 ∷ 33 ∷ 7 ∷ []

pub struct_run :
    calls 255 3 Fields padded_struct (cursor 1 6)
    ≡ record { answer = gives (field 5 3 (record { byte = 33; start = 4; annotations = 4; descriptor = 4; body = 5; end = 6 })); next = cursor 6 6 }
    ∷ record { answer = gives (finish 6); next = cursor 6 6 }
    ∷ record { answer = gives (finish 6); next = cursor 6 6 }
    ∷ []
unfolding calls step_of found skip_pads tile_at field_at named_at var_uint var_number last_byte last_among var_uint_of of_digits read_frame peeked_descriptor frame_at pad_at padded value_at value_without_annotations value_length length_at length_tests value_code bad_float short_timestamp empty_ordered fitting descriptor_of kind_of outside_of out_of_range
struct_run = refl

pub struct_pads : (found 255 Fields padded_struct (cursor 1 6)).pads ≡ record { start = 1; body = 3; end = 3 } ∷ []
unfolding found skip_pads tile_at field_at named_at var_uint var_number last_byte last_among var_uint_of of_digits read_frame peeked_descriptor frame_at pad_at padded value_at value_without_annotations value_length length_at length_tests value_code bad_float short_timestamp empty_ordered fitting descriptor_of kind_of outside_of out_of_range
struct_pads = refl

-- a list, B2 00 E0, and its body: the pad is not passed where E0 after it is refused, and the refusal repeats
abbrev pub refused_list : List ℕ
refused_list = 178 ∷ 0 ∷ 224 ∷ []

pub refused_run :
    calls 255 3 Sequence refused_list (cursor 1 3)
    ≡ record { answer = refuses 22 2; next = cursor 1 3 }
    ∷ record { answer = refuses 22 2; next = cursor 1 3 }
    ∷ record { answer = refuses 22 2; next = cursor 1 3 }
    ∷ []
unfolding calls step_of found skip_pads tile_at framed_at read_frame peeked_descriptor frame_at pad_at padded value_at value_without_annotations length_at descriptor_of kind_of outside_of out_of_range
refused_run = refl

-- with a limit of annotation bytes that is none, 68 at each call
pub unranged_run :
    calls 254 2 Stream marked (cursor 0 7)
    ≡ record { answer = refuses 68 0; next = cursor 0 7 } ∷ record { answer = refuses 68 0; next = cursor 0 7 } ∷ []
unfolding calls step_of found out_of_range
unranged_run = refl
