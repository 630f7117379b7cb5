-- Worked examples of walks by their limits, which the definitions compute. Bytes are hexadecimal in the comments.
-- Assumes nothing.
use Prim.Native.Nat.{ℕ}
use mathlib.Core.Path.{◌≡◌, refl}
use mathlib.Core.List.{List, [], ◌∷◌}
use Rattle.numbers.specs.Outcome.{gives, refuses, outside_of}
use Rattle.numbers.specs.Descriptor.{kind_of, descriptor_of}
use Rattle.framing.specs.Limits.{out_of_range}
use Rattle.framing.specs.Answers.{peeked_descriptor, length_at, value_code, bad_float, short_timestamp, empty_ordered, length_tests, value_length, fitting, value_without_annotations, value_at, frame_at, read_frame}
use Rattle.stepping.specs.Items.{finish, value}
use Rattle.stepping.specs.Answers.{framed_at, tile_at, skip_pads, found, step_of}
use Rattle.values.specs.Scalars.{is_container}
use Rattle.walking.specs.Walk.{limits_out, visit, walk_of, whole_walk}

-- a list in a list: B1 B0
abbrev listed : List ℕ
listed = 177 ∷ 176 ∷ []

-- with the depth 1 the inner list is handed out and not entered: 37 follows
pub too_deep_walk :
    whole_walk 255 1 listed
    ≡ visit 0 (gives (value (record { byte = 177; start = 0; annotations = 0; descriptor = 0; body = 1; end = 2 })))
    ∷ visit 1 (gives (value (record { byte = 176; start = 1; annotations = 1; descriptor = 1; body = 2; end = 2 })))
    ∷ visit 1 (refuses 37 1)
    ∷ []
unfolding whole_walk limits_out out_of_range walk_of step_of found skip_pads tile_at framed_at read_frame peeked_descriptor frame_at value_at value_without_annotations value_length length_at length_tests value_code bad_float short_timestamp empty_ordered fitting descriptor_of kind_of outside_of is_container
too_deep_walk = refl

-- with the depth 2 it is entered, and the map's end follows
pub deep_walk :
    whole_walk 255 2 listed
    ≡ visit 0 (gives (value (record { byte = 177; start = 0; annotations = 0; descriptor = 0; body = 1; end = 2 })))
    ∷ visit 1 (gives (value (record { byte = 176; start = 1; annotations = 1; descriptor = 1; body = 2; end = 2 })))
    ∷ visit 0 (gives (finish 2))
    ∷ []
unfolding whole_walk limits_out out_of_range walk_of step_of found skip_pads tile_at framed_at read_frame peeked_descriptor frame_at value_at value_without_annotations value_length length_at length_tests value_code bad_float short_timestamp empty_ordered fitting descriptor_of kind_of outside_of is_container
deep_walk = refl

-- with a limit that is none, 68 alone
pub no_walk : whole_walk 255 65 listed ≡ visit 0 (refuses 68 0) ∷ []
unfolding whole_walk limits_out out_of_range
no_walk = refl
