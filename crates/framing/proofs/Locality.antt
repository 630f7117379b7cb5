-- An answer depends only on the bytes that were looked at: of a value or a pad those before its body but for the annotations, of a refusal those of the
-- part. So two slices of one length with the same bytes there give the same answer.
-- Assumes nothing.
use Prim.Native.Nat.{ℕ, ◌+◌, ◌-◌, ◌/◌, ◌%◌, ◌≤◌, ◌<◌}
use native.Mathlib.Omega.{arith}
use borrow.Author.Tests.{eqb-false}
use mathlib.Core.Path.{◌≡◌, refl, ◌∙◌, sym, ap, subst}
use mathlib.Core.List.{List}
use lib.ListN.{length, get_or}
use lib.Dec.{eqb}
use Rattle.numbers.specs.Format.{VarBytes, var_uint_of, NumberAt}
use Rattle.numbers.specs.Outcome.{Outcome, gives, and_then}
use Rattle.numbers.specs.Bytes.{part, Same}
use Rattle.numbers.specs.Answers.{Unsigned, looked_to}
use Rattle.numbers.specs.Descriptor.{descriptor_of}
use Rattle.numbers.specs.declared.type_descriptor.TypeDescriptor.{TypeDescriptor}
use Rattle.numbers.proofs.Outcomes.{Each, given, each_then, each_pick, each_if, refuse_same, pick_same, then_same}
use Rattle.numbers.proofs.Parts.{part_same}
use Rattle.numbers.proofs.Locality.{within_local, var_uint_local, looked_high}
use Rattle.framing.specs.Answers.{peeked_descriptor, sized_by, length_at, value_code, value_length, value_without_annotations, pad_at, wrapper_tests, annotations_at, wrapper_at, inner_value, wrapped, unwrapped, annotated_value, value_at, read_value, pad_or_none, read_pad, frame_at, read_frame, Frame, padding, valued, as_padding, as_valued, is_pad, is_wrapper, no_value, read_annotation}
use Rattle.framing.specs.Spans.{Spans, Padding}
use Rattle.framing.specs.Format.{CodeLength, short, long, ValueLength, none, null, coded, ordered, ValueType, Legal, TypedValue, NopPadding, AnnotationWrapper, ValueBytes, plain, annotated}
use Rattle.framing.specs.Meaning.{Within}
use Rattle.framing.proofs.Bounds.{peeked_each, length_each, wrapper_each}
use Rattle.framing.proofs.Soundness.{values-sound, pads-sound}
use Rattle.framing.proofs.Completeness.{values-complete, pads-complete}

-- The same bytes in the whole part give the same answer, whatever it is.
module _ (limit : ℕ) (s t : List ℕ) (e : length s ≡ length t) where
  abbrev From : ℕ → ℕ → Type 0
  From at end = Same s t at end

  peeked_local : (at end : ℕ) → From at end → peeked_descriptor s at end ≡ peeked_descriptor t at end
  unfolding peeked_descriptor
  peeked_local at end same =
      within_local s t at end e (λ a b.
      refuse_same (eqb at end) 1 end (λ n.
      ap (λ (x : ℕ). gives (descriptor_of x)) (same at (omega arith) (omega (arith, eqb-false at end n)))))

  length_local : (at end code : ℕ) → From at end → length_at s at end code ≡ length_at t at end code
  unfolding length_at
  length_local at end code same =
      pick_same (eqb code 15) (λ _. refl) (λ _.
      pick_same (eqb code 14)
      (λ _.
      ap (λ (o : Outcome Unsigned). and_then o sized_by)
      (var_uint_local s t at end e (λ i a b. same i a (omega (arith, looked_high s at end)))))
      (λ _. refl))

  later : (at p end : ℕ) → at ≤ p → From at end → From p end
  later at p end h same i a b = same i (omega arith) b

  plain_local : (at end : ℕ) (d : TypeDescriptor) → at < end → From at end → value_without_annotations s at end d ≡ value_without_annotations t at end d
  unfolding value_without_annotations value_length
  plain_local at end d h same =
      refuse_same (no_value d.kind) 22 at (λ _.
      rw (length_local (at + 1) end (value_code d.type_code d.length_code) (later at (at + 1) end (omega arith) same), same at (omega arith) h))

  pad_local : (at end : ℕ) (d : TypeDescriptor) → From at end → pad_at s at end d ≡ pad_at t at end d
  unfolding pad_at
  pad_local at end d same =
      rw (length_local (at + 1) end d.length_code (later at (at + 1) end (omega arith) same))

  wrapper_local : (at end : ℕ) (d : TypeDescriptor) → at < end → From at end → wrapper_at limit s at end d ≡ wrapper_at limit t at end d
  unfolding wrapper_at annotations_at
  wrapper_local at end d h same =
      then_same (length_each s (at + 1) end d.length_code (omega arith))
      (length_local (at + 1) end d.length_code (later at (at + 1) end (omega arith) same)) (λ l b.
      ap (λ (o : Outcome Unsigned). and_then o (wrapper_tests limit at end l))
      (var_uint_local s t l.body end e (λ i a c. same i (omega (arith, b.low)) (omega (arith, looked_high s l.body end)))))

  inner_local : (at end : ℕ) → From at end → and_then (peeked_descriptor s at end) (inner_value s at end) ≡ and_then (peeked_descriptor t at end) (inner_value t at end)
  unfolding inner_value
  inner_local at end same =
      then_same (peeked_each s at end) (peeked_local at end same) (λ d b.
      refuse_same (is_wrapper d.kind) 27 at (λ _. refuse_same (is_pad d.kind) 28 at (λ _. plain_local at end d b.before same)))

  value_at_local : (at end : ℕ) (d : TypeDescriptor) → at < end → From at end → value_at limit s at end d ≡ value_at limit t at end d
  unfolding value_at annotated_value unwrapped
  value_at_local at end d h same =
      pick_same (is_wrapper d.kind)
      (λ _.
      then_same (wrapper_each limit s at end d h) (wrapper_local at end d h same) (λ w b.
      ap (λ (o : Outcome Spans). and_then o (wrapped at w)) (inner_local w.value end (later at w.value end (omega (arith, b.low, b.some)) same))))
      (λ _. plain_local at end d h same)

  pub frame_local : (at end : ℕ) → Same s t at end → read_frame limit s at end ≡ read_frame limit t at end
  unfolding read_frame frame_at
  frame_local at end same =
      then_same (peeked_each s at end) (peeked_local at end same) (λ d b.
      pick_same (is_pad d.kind) (λ _. ap (λ (o : Outcome Padding). and_then o as_padding) (pad_local at end d same))
      (λ _. ap (λ (o : Outcome Spans). and_then o as_valued) (value_at_local at end d b.before same)))

  pub value_local : (at end : ℕ) → Same s t at end → read_value limit s at end ≡ read_value limit t at end
  unfolding read_value
  value_local at end same =
      then_same (peeked_each s at end) (peeked_local at end same) (λ d b. value_at_local at end d b.before same)

module _ (s t : List ℕ) (e : length s ≡ length t) where
  -- An annotation step depends on its ID's bytes alone.
  pub annotation_local : (at end : ℕ) → Same s t at (looked_to s at end) → read_annotation s at end ≡ read_annotation t at end
  unfolding read_annotation
  annotation_local at end same =
      within_local s t at end e (λ _ _. pick_same (eqb at end) (λ _. refl) (λ _. rw (var_uint_local s t at end e same)))

-- The bytes of a value or a pad before its body, but for its annotations, are all that its rules speak of.
module _ (s t : List ℕ) (e : length s ≡ length t) where
  number_moves : (at end next : ℕ) → Same s t at next → NumberAt s at end next → NumberAt t at end next
  number_moves at end next same n =
      record {
        bytes = subst VarBytes (part_same s t at next e (omega (arith, n.ends, n.within)) same) n.bytes;
        begins = n.begins;
        ends = n.ends;
        within = omega (arith, n.within);
      }

  code_moves : (at end b : ℕ) {code n : ℕ} → Same s t at b → CodeLength s at end b code n → CodeLength t at end b code n
  code_moves at end b same (short h q) = short h q
  code_moves at end b same (long n) =
      subst (λ (p : List ℕ). CodeLength t at end b 14 (var_uint_of p)) (sym (part_same s t at b e (omega (arith, n.ends, n.within)) same))
      (long (number_moves at end b same n))

  field_moves : (at end b : ℕ) {type code n : ℕ} → Same s t at b → ValueLength s at end b type code n → ValueLength t at end b type code n
  field_moves at end b same (none h q) = none h q
  field_moves at end b same (null h q) = null h q
  field_moves at end b same (coded h never f) = coded h never (code_moves at end b same f)
  field_moves at end b same (ordered f) = ordered (code_moves at end b same f)

  typed_moves : (at end : ℕ) (v : Spans) → Same s t at v.body → TypedValue s at end v → TypedValue t at end v
  typed_moves at end v same w =
      let q : get_or s at 0 ≡ get_or t at 0 = same at (omega arith) w.low in
      record {
        type = subst (λ (x : ℕ). ValueType (x / 16) (x % 16)) q w.type;
        field = subst (λ (x : ℕ). ValueLength t (at + 1) end v.body (x / 16) (x % 16) (v.end - v.body)) q
            (field_moves (at + 1) end v.body (λ i a b. same i (omega arith) b) w.field);
        legal = subst (λ (x : ℕ). Legal (x / 16) (x % 16) (v.end - v.body)) q w.legal;
        byte = w.byte ∙ q;
        start = w.start;
        annotations = w.annotations;
        descriptor = w.descriptor;
        low = w.low;
        order = w.order;
        fits = w.fits;
        within = omega (arith, w.within);
      }

  pad_moves : (at end : ℕ) (p : Padding) → Same s t at p.body → NopPadding s at end p → NopPadding t at end p
  pad_moves at end p same n =
      let q : get_or s at 0 ≡ get_or t at 0 = same at (omega arith) n.low in
      record {
        type = ap (λ (x : ℕ). x / 16) (sym q) ∙ n.type;
        field = subst (λ (x : ℕ). CodeLength t (at + 1) end p.body (x % 16) (p.end - p.body)) q
            (code_moves (at + 1) end p.body (λ i a b. same i (omega arith) b) n.field);
        low = n.low;
        order = n.order;
        fits = n.fits;
        within = omega (arith, n.within);
      }

  -- a value's header: its wrapper up to the annotations, its descriptor and its length
  pub record SameHeader (at : ℕ) (v : Spans) : Type 0 where
    pub wrapper : Same s t at v.annotations
    pub value : Same s t v.descriptor v.body

  wrapper_moves : (at end : ℕ) (v : Spans) → SameHeader at v → AnnotationWrapper s at end v → AnnotationWrapper t at end v
  wrapper_moves at end v same w =
      let q : get_or s at 0 ≡ get_or t at 0 = same.wrapper at (omega arith) (omega (arith, w.low, w.count.begins)) in
      let p : part s w.after v.annotations ≡ part t w.after v.annotations
      = part_same s t w.after v.annotations e (omega (arith, w.count.ends, w.count.within)) (λ i a b. same.wrapper i (omega (arith, w.low)) b) in
      record {
        combined = w.combined;
        after = w.after;
        type = ap (λ (x : ℕ). x / 16) (sym q) ∙ w.type;
        field = subst (λ (x : ℕ). CodeLength t (at + 1) end w.after (x % 16) w.combined) q
            (code_moves (at + 1) end w.after (λ i a b. same.wrapper i (omega arith) (omega (arith, w.count.begins))) w.field);
        low = w.low;
        count = number_moves w.after end v.annotations (λ i a b. same.wrapper i (omega (arith, w.low)) b) w.count;
        size = w.size ∙ ap (λ (x : List ℕ). v.annotations + var_uint_of x) p;
        some = w.some;
        inner = w.inner;
        value = typed_moves v.descriptor end w.inner (λ i a b. same.value i a (omega (arith, w.body))) w.value;
        all = w.all;
        start = w.start;
        byte = w.byte;
        body = w.body;
        ends = w.ends;
      }

module _ (limit : ℕ) (s t : List ℕ) (e : length s ≡ length t) where
  value_moves : (at end : ℕ) (v : Spans) → SameHeader s t e at v → (b : ValueBytes s at end v) → Within limit b → (c : ValueBytes t at end v) × Within limit c
  unfolding wrapper_moves
  value_moves at end v same (plain w) l =
      (plain (typed_moves s t e at end v (λ i a b. same.value i (omega (arith, w.descriptor)) b) w), l)
  value_moves at end v same (annotated w) l = (annotated (wrapper_moves s t e at end v same w), l)

  -- A value is framed the same where its header is.
  pub value_given_local : (at end : ℕ) (v : Spans) → SameHeader s t e at v → read_value limit s at end ≡ gives v → (read_value limit t at end ≡ gives v) × (read_frame limit t at end ≡ gives (valued v))
  value_given_local at end v same r =
      let b = values-sound limit s at end v r in
      let c = value_moves at end v same b.0 b.1 in
      values-complete limit t at end v c.0 c.1

  -- A pad is framed the same where what stands before its body is.
  pub pad_given_local : (at end : ℕ) (p : Padding) → Same s t at p.body → read_pad s at end ≡ gives p → read_frame limit t at end ≡ gives (padding p)
  pad_given_local at end p same r =
      let n = pads-sound s at end p r in (pads-complete limit t at end p (pad_moves s t e at end p same n.0) n.1).1

-- What a frame gives is what the reading of its kind gives.
pub data FrameIs (limit : ℕ) (s : List ℕ) (at end : ℕ) : Frame → Type 0 where
  pad_is : {p : Padding} → read_pad s at end ≡ gives p → FrameIs limit s at end (padding p)
  value_is : {v : Spans} → read_value limit s at end ≡ gives v → FrameIs limit s at end (valued v)

pub frame_is : (limit : ℕ) (s : List ℕ) (at end : ℕ) → Each (FrameIs limit s at end) (read_frame limit s at end)
unfolding read_frame frame_at read_pad pad_or_none read_value
frame_is limit s at end =
    each_then (each_if (peeked_descriptor s at end) (λ d e. e)) (λ d e.
    each_pick (is_pad d.kind)
    (λ k. each_then (each_if (pad_at s at end d) (λ p q. q)) (λ p q. given (pad_is (rw (e, k, q)))))
    (λ k. each_then (each_if (value_at limit s at end d) (λ v q. q)) (λ v q. given (value_is (rw (e, q))))))
