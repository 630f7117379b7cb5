-- The points on which the change request A.7 can be read in two ways, each by a map, a place and an ID, and the answer that was decided on (docs/DECISIONS.md): the
-- definitions compute them. Bytes are hexadecimal in the comments.
-- Assumes nothing.
use Prim.Native.Nat.{ℕ}
use mathlib.Core.Path.{◌≡◌, refl}
use mathlib.Core.List.{List, [], ◌∷◌, map}
use lib.ListN.{length}
use Rattle.numbers.specs.Format.{of_digits, var_uint_of}
use Rattle.numbers.specs.Outcome.{Outcome, gives, refuses, outside_of}
use Rattle.numbers.specs.Answers.{last_among, last_byte, var_number, var_uint}
use Rattle.numbers.specs.Descriptor.{kind_of, descriptor_of}
use Rattle.framing.specs.Limits.{out_of_range}
use Rattle.framing.specs.Answers.{peeked_descriptor, length_at, value_code, bad_float, short_timestamp, empty_ordered, length_tests, value_length, fitting, value_without_annotations, padded, pad_at}
use Rattle.framing.specs.Answers.{wrapper_tests, annotations_at, wrapper_at, inner_value, wrapped, unwrapped, annotated_value, value_at, frame_at, read_frame, read_annotation}
use Rattle.bodies.specs.Utf8.{table, row_of, goes_on, utf8}
use Rattle.stepping.specs.Answers.{marker_at, framed_at, named_at, field_at, tile_at, skip_pads, found, step_of}
use Rattle.symbols.specs.SystemTexts.{system_texts, system_bytes, text_start, same_bytes}
use Rattle.symbols.specs.Turns.{step_until, step_all}
use Rattle.symbols.specs.Text.{is_typed, is_table, on_stream, ruling_at, list_of, on_field, own_list, Text, unknown, own, system, system_text, entry_text, on_entry, own_text, text_in, symbols_at, text_of}

-- a map, which is the stream, a place in it, and an ID
pub data Question : Type 0 where
  ask : List ℕ → ℕ → ℕ → Question

abbrev pub answer : Question → Outcome Text
answer (ask s place id) = text_of 255 s system_bytes 0 (length s) place id

pub points : map answer
    (ask (33 ∷ 7 ∷ 1 ∷ []) 1 1  -- 21 07 01
    ∷ ask (227 ∷ 129 ∷ 4 ∷ 208 ∷ []) 2 1  -- E3 81 04 D0
    ∷ ask (0 ∷ 32 ∷ []) 0 1  -- 00 20
    ∷ ask (227 ∷ 129 ∷ 4 ∷ 208 ∷ []) 0 1  -- E3 81 04 D0
    ∷ ask (232 ∷ 129 ∷ 131 ∷ 213 ∷ 135 ∷ 179 ∷ 224 ∷ 32 ∷ 32 ∷ []) 9 4  -- E8 81 83 D5 87 B3 E0 20 20
    ∷ ask (232 ∷ 129 ∷ 131 ∷ 213 ∷ 135 ∷ 179 ∷ 224 ∷ 32 ∷ 32 ∷ []) 9 10  -- E8 81 83 D5 87 B3 E0 20 20
    ∷ ask (229 ∷ 129 ∷ 131 ∷ 210 ∷ 134 ∷ 32 ∷ []) 6 0  -- E5 81 83 D2 86 20
    ∷ ask (229 ∷ 129 ∷ 131 ∷ 210 ∷ 134 ∷ 15 ∷ []) 6 1  -- E5 81 83 D2 86 0F
    ∷ ask (231 ∷ 129 ∷ 131 ∷ 212 ∷ 135 ∷ 32 ∷ 135 ∷ 176 ∷ []) 8 1  -- E7 81 83 D4 87 20 87 B0
    ∷ ask (231 ∷ 129 ∷ 131 ∷ 212 ∷ 134 ∷ 0 ∷ 135 ∷ 0 ∷ []) 8 10  -- E7 81 83 D4 86 00 87 00
    ∷ ask (230 ∷ 129 ∷ 131 ∷ 211 ∷ 134 ∷ 32 ∷ 135 ∷ []) 7 1  -- E6 81 83 D3 86 20 87
    ∷ ask (233 ∷ 129 ∷ 131 ∷ 214 ∷ 135 ∷ 180 ∷ 32 ∷ 129 ∷ 97 ∷ 128 ∷ []) 10 10  -- E9 81 83 D6 87 B4 20 81 61 80
    ∷ ask (233 ∷ 129 ∷ 131 ∷ 214 ∷ 135 ∷ 180 ∷ 32 ∷ 129 ∷ 97 ∷ 128 ∷ []) 10 11  -- E9 81 83 D6 87 B4 20 81 61 80
    ∷ ask (233 ∷ 129 ∷ 131 ∷ 214 ∷ 135 ∷ 180 ∷ 32 ∷ 129 ∷ 97 ∷ 128 ∷ []) 10 12  -- E9 81 83 D6 87 B4 20 81 61 80
    ∷ ask (233 ∷ 129 ∷ 131 ∷ 214 ∷ 135 ∷ 180 ∷ 32 ∷ 129 ∷ 97 ∷ 128 ∷ []) 10 13  -- E9 81 83 D6 87 B4 20 81 61 80
    ∷ ask (233 ∷ 129 ∷ 131 ∷ 214 ∷ 135 ∷ 180 ∷ 129 ∷ 255 ∷ 129 ∷ 97 ∷ []) 10 10  -- E9 81 83 D6 87 B4 81 FF 81 61
    ∷ ask (233 ∷ 129 ∷ 131 ∷ 214 ∷ 135 ∷ 180 ∷ 129 ∷ 255 ∷ 129 ∷ 97 ∷ []) 10 11  -- E9 81 83 D6 87 B4 81 FF 81 61
    ∷ ask (227 ∷ 129 ∷ 4 ∷ 208 ∷ 224 ∷ 1 ∷ 0 ∷ 234 ∷ []) 8 1  -- E3 81 04 D0 E0 01 00 EA
    ∷ ask (227 ∷ 129 ∷ 4 ∷ 223 ∷ []) 4 1  -- E3 81 04 DF
    ∷ ask (229 ∷ 129 ∷ 131 ∷ 210 ∷ 134 ∷ 32 ∷ 227 ∷ 129 ∷ 131 ∷ 208 ∷ []) 10 1  -- E5 81 83 D2 86 20 E3 81 83 D0
    ∷ ask (231 ∷ 129 ∷ 131 ∷ 212 ∷ 135 ∷ 178 ∷ 129 ∷ 97 ∷ 224 ∷ 1 ∷ 0 ∷ 234 ∷ []) 8 10  -- E7 81 83 D4 87 B2 81 61 E0 01 00 EA
    ∷ ask (231 ∷ 129 ∷ 131 ∷ 212 ∷ 135 ∷ 178 ∷ 129 ∷ 97 ∷ 224 ∷ 1 ∷ 0 ∷ 234 ∷ []) 12 10  -- E7 81 83 D4 87 B2 81 61 E0 01 00 EA
    ∷ [])
    ≡ refuses 50 0
    ∷ refuses 50 0
    ∷ refuses 50 0
    ∷ gives (system 0 4)
    ∷ gives (system 29 33)
    ∷ refuses 22 6
    ∷ refuses 64 4
    ∷ refuses 64 4
    ∷ refuses 65 6
    ∷ gives unknown
    ∷ refuses 64 4
    ∷ gives unknown
    ∷ gives (own 8 9)
    ∷ gives (own 10 10)
    ∷ gives unknown
    ∷ refuses 36 6
    ∷ gives (own 9 10)
    ∷ refuses 3 3
    ∷ gives (system 0 4)
    ∷ gives (system 0 4)
    ∷ gives (own 7 8)
    ∷ gives unknown
    ∷ []
unfolding text_of symbols_at text_in own_text on_entry entry_text system_text own_list on_field list_of ruling_at on_stream is_table is_typed step_all step_until same_bytes system_bytes system_texts text_start read_annotation utf8 goes_on row_of table step_of found skip_pads tile_at field_at named_at framed_at marker_at read_frame frame_at value_at annotated_value unwrapped wrapped inner_value wrapper_at annotations_at wrapper_tests pad_at padded value_without_annotations fitting value_length length_tests empty_ordered short_timestamp bad_float value_code length_at peeked_descriptor descriptor_of kind_of var_uint var_number last_byte last_among var_uint_of of_digits outside_of out_of_range
points = refl
