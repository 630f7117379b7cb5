-- What is refused of a struct's body of one byte is what the check refuses of it behind DE 81: a struct whose length, 1, is a VarUInt.
-- Assumes nothing.
use Prim.Native.Nat.{ℕ, ◌-◌, ◌≤◌}
use native.Mathlib.Omega.{arith}
use borrow.Author.Tests.{le-ltb}
use mathlib.Core.Path.{◌≡◌, refl, ◌∙◌, sym, ap}
use mathlib.Core.Bool.{false}
use mathlib.Core.List.{List, [], ◌∷◌}
use Rattle.numbers.specs.Outcome.{gives, outside_of}
use Rattle.numbers.specs.Format.{of_digits, var_uint_of}
use Rattle.numbers.specs.Answers.{last_among, last_byte, var_number, var_uint}
use Rattle.numbers.specs.Descriptor.{descriptor_of, kind_of}
use Rattle.framing.specs.Limits.{out_of_range}
use Rattle.framing.specs.Spans.{Spans}
use Rattle.framing.specs.Answers.{peeked_descriptor, length_at, value_code, bad_float, short_timestamp, empty_ordered, length_tests, value_length, fitting, value_without_annotations, value_at, frame_at, valued, read_frame}
use Rattle.framing.specs.ShortValue.{bare_spans}
use Rattle.stepping.specs.declared.cursor.Rules.TheVariants.{Fields}
use Rattle.values.specs.Scalars.{is_container, scalar_of, typed_of}
use Rattle.walking.proofs.Depths.{in_limit}
use Rattle.checking.specs.Counts.{none, pads, place_of, counting}
use Rattle.checking.specs.Reading.{read_content, read_item}
use Rattle.checking.specs.Check.{Parts, value_check}
use Rattle.checking.specs.Body.{body_check}
use Rattle.checking.specs.Private.Whole.{full}
use Rattle.checking.proofs.Ids.{ids_none}
use Rattle.writing.specs.Answers.{judged_container}
use Rattle.writing.specs.Judged.{counted_from, JudgedOneByteStructs}
use Rattle.writing.proofs.ChecksMoved.{part_counted}
use Rattle.writing.proofs.Judging.{found_value, whole_value, counted_is}
use Rattle.walking.proofs.Depths.{depth_some}

-- the struct of the map DE 81 and one byte
abbrev struct : Spans
struct = bare_spans 222 0 2 3

struct_framed : (limit b : ℕ) → read_frame limit (222 ∷ 129 ∷ b ∷ []) 0 3 ≡ gives (valued struct)
unfolding read_frame frame_at value_at value_without_annotations value_length length_at length_tests value_code bad_float short_timestamp empty_ordered fitting peeked_descriptor outside_of descriptor_of kind_of var_uint var_number last_byte last_among var_uint_of of_digits
struct_framed limit b = refl

struct_inside : (s : List ℕ) (P : Parts) (deepest : ℕ) (c : List ℕ) → 1 ≤ deepest → value_check s P deepest struct c ≡ P Fields (deepest - 1) 3 2 (counting (place_of struct) 1 c)
unfolding value_check read_item read_content scalar_of typed_of is_container
struct_inside s P deepest c h = rw (ids_none s 0 0 (omega arith), le-ltb deepest 1 h)

pub one_byte_judged : JudgedOneByteStructs
unfolding judged_container body_check full
one_byte_judged limit deepest [] l e = absurd (omega arith)
one_byte_judged limit deepest (b ∷ c ∷ bs) l e = absurd (omega arith)
one_byte_judged limit deepest (b ∷ []) l e =
    let s : List ℕ = 222 ∷ 129 ∷ b ∷ [] in
    let g : out_of_range limit ≡ false = in_limit limit deepest l in
    let c : List ℕ = counting pads 0 none in
    counted_is 2
    (part_counted limit (b ∷ []) s 2 0 1 g (omega arith) (omega arith) (λ i _ q. let z : i ≡ 0 = omega arith in rw z) 1 Fields (deepest - 1) 1 0 none (counting (place_of struct) 1 c) (omega arith) (omega arith) (omega arith))
    ∙ sym (ap (counted_from 2)
    (whole_value limit s g deepest struct l (found_value limit s g struct (omega arith) (λ q. absurd (omega arith)) (struct_framed limit b)) refl
    ∙ struct_inside s (full limit s) deepest c (depth_some limit deepest l)))
