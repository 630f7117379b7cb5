-- What is refused of a wrapper that is to be written is what the check refuses of it as a map: its own tests, the value's framing, the annotations' IDs, and then
-- the value's reading and inside as they are by itself.
-- Assumes nothing.
use Prim.Native.Nat.{ℕ, suc, ◌+◌, ◌-◌, ◌^◌, ◌≤◌, ◌<◌}
use native.Mathlib.Omega.{arith}
use borrow.Author.Tests.{lt-ltb, le-ltb, eqb-true, eqb-false, eq-eqb, ne_eqb, not-false}
use mathlib.Core.Path.{◌≡◌, refl, ◌∙◌, sym, ap, subst}
use mathlib.Core.Bool.{Bool, true, false, not}
use mathlib.Core.List.{List, ◌++◌}
use lib.ListN.{length, get_or}
use lib.Dec.{ltb, eqb}
use Rattle.numbers.specs.Outcome.{Outcome, gives, refuses, pick, refuse_if, and_then}
use Rattle.numbers.specs.Answers.{most_bytes}
use Rattle.numbers.specs.Descriptor.{descriptor_of, kind_of}
use Rattle.numbers.proofs.Outcomes.{by_test, by_case, inside, each_of}
use Rattle.numbers.proofs.Meaning.{var-uint-complete}
use Rattle.numbers.proofs.Moving.{Moved, given_on, refused_on}
use Rattle.framing.specs.Limits.{out_of_range}
use Rattle.framing.specs.Spans.{Spans}
use Rattle.framing.specs.Answers.{peeked_descriptor, length_at, Wrapping, wrapper_tests, annotations_at, wrapper_at, inner_value, wrapped, unwrapped, annotated_value, value_at, frame_at, valued, as_valued, read_value, read_frame}
use Rattle.framing.specs.Format.{type_at, code_at, CodeLength, short, long, TypedValue, plain}
use Rattle.framing.proofs.Nibbles.{IsWrapper, is-wrapper}
use Rattle.framing.proofs.Bounds.{Ordered, inner_peeked_each}
use Rattle.framing.proofs.Completeness.{peeked_here, values-complete}
use Rattle.stepping.specs.Items.{value}
use Rattle.stepping.specs.Answers.{stop, framed_at, tile_at, skip_pads, found}
use Rattle.stepping.specs.Runs.{cursor}
use Rattle.stepping.specs.declared.cursor.Rules.TheVariants.{Sequence}
use Rattle.values.specs.Scalars.{is_container, scalar_of, typed_of, bool_of, positive_of, negative_of, float_of, symbol_of, string_of}
use Rattle.walking.specs.Walk.{limits_out}
use Rattle.walking.proofs.Depths.{in_limit}
use Rattle.checking.specs.Counts.{none, pads, counting}
use Rattle.checking.specs.Reading.{Done, done, read_ids, read_content, content_next, read_item}
use Rattle.checking.specs.Check.{Parts, inside_of, value_check, on_found, part_check, whole_check}
use Rattle.checking.specs.Body.{body_check}
use Rattle.checking.specs.Private.Whole.{full}
use Rattle.checking.proofs.Ids.{ids_none}
use Rattle.checking.proofs.Unrolled.{unrolled}
use Rattle.encoding.specs.Fields.{var_uint_size, var_uint_bytes}
use Rattle.encoding.specs.Heads.{head_bytes, head_code, head_size, typed_bytes, wrapped_bytes, wrapper_bytes, wrapper_size}
use Rattle.encoding.specs.Meaning.{StandsAt}
use Rattle.encoding.proofs.VarUInts.{bytes_size}
use Rattle.encoding.proofs.Heads.{NumberStands, number_stands, HeadStands, head_stands, head_length, head_some, head_few, head-code, wrapped_length, wrapper_length}
use Rattle.encoding.proofs.Standing.{stands_at, stands_first, stands_rest}
use Rattle.writing.specs.Answers.{lent_value, then_value, judged_parts, judged_wrapper}
use Rattle.writing.specs.Judged.{counted_from, is_refused, lent_from, JudgedWrappers, AcceptedWrappers}
use Rattle.writing.proofs.FramesMoved.{moved_spans, inner_moved}
use Rattle.writing.proofs.ChecksMoved.{Counted, both_give, both_refuse, ids_counted, part_counted}
use Rattle.writing.proofs.Lengths.{not_past}
use Rattle.writing.proofs.WrappersBack.{inner_typed}
use Rattle.writing.proofs.Judging.{stands_whole, found_value, full_end, then_given, whole_value, counted_is, given_back}
use Rattle.writing.proofs.ScalarsJudged.{found_refused, whole_refused}

-- ---- the wrapper's bytes

-- the annotations have m bytes, the value n: how long the wrapper says that it is
abbrev in_all : ℕ → ℕ → ℕ
in_all m n = var_uint_size m + (m + n)

record Laid (a v : List ℕ) (m n : ℕ) : Type 0 where
  whole : length (wrapper_bytes a v) ≡ wrapper_size m n + m + n
  head : HeadStands (wrapper_bytes a v) 0 (wrapper_size m n + m + n) 14 (in_all m n)
  count : NumberStands (wrapper_bytes a v) (head_size (in_all m n)) (wrapper_size m n + m + n) m
  annotations : StandsAt (wrapper_bytes a v) (wrapper_size m n) (wrapper_size m n + m + n) a
  value : StandsAt (wrapper_bytes a v) (wrapper_size m n + m) (wrapper_size m n + m + n) v

laid : (a v : List ℕ) → length (wrapped_bytes a v) < 2 ^ 63 → Laid a v (length a) (length v)
unfolding wrapper_bytes typed_bytes wrapped_bytes wrapper_size
laid a v small =
    let m : ℕ = length a in
    let n : ℕ = length v in
    let s : List ℕ = wrapper_bytes a v in
    let size : length (wrapped_bytes a v) ≡ in_all m n = wrapped_length a v in
    let whole : length s ≡ wrapper_size m n + m + n = wrapper_length a v ∙ ap (λ (x : ℕ). head_size x + x) size ∙ omega arith in
    let all : StandsAt s 0 (wrapper_size m n + m + n) s = subst (λ (x : ℕ). StandsAt s 0 x s) whole (stands_whole s) in
    let first : StandsAt s 0 (wrapper_size m n + m + n) (head_bytes 14 (length (wrapped_bytes a v))) = stands_first (head_bytes 14 (length (wrapped_bytes a v))) (wrapped_bytes a v) all in
    let next = stands_rest (head_bytes 14 (length (wrapped_bytes a v))) (wrapped_bytes a v) all in
    let place : 0 + length (head_bytes 14 (length (wrapped_bytes a v))) ≡ head_size (in_all m n) = omega (arith, head_length 14 (length (wrapped_bytes a v)), ap head_size size) in
    let rest : StandsAt s (head_size (in_all m n)) (wrapper_size m n + m + n) (var_uint_bytes m ++ (a ++ v)) = subst (λ (x : ℕ). StandsAt s x (wrapper_size m n + m + n) (var_uint_bytes m ++ (a ++ v))) place next in
    let both : StandsAt s (wrapper_size m n) (wrapper_size m n + m + n) (a ++ v) = subst (λ (x : ℕ). StandsAt s (head_size (in_all m n) + x) (wrapper_size m n + m + n) (a ++ v)) (bytes_size m) (stands_rest (var_uint_bytes m) (a ++ v) rest) in
    record {
      whole = whole;
      head = subst (HeadStands s 0 (wrapper_size m n + m + n) 14) size (head_stands s 0 (wrapper_size m n + m + n) 14 (length (wrapped_bytes a v)) small first);
      count = number_stands s (head_size (in_all m n)) (wrapper_size m n + m + n) m (omega arith) (stands_first (var_uint_bytes m) (a ++ v) rest);
      annotations = stands_first a v both;
      value = stands_rest a v both;
    }

-- ---- its framing

code_told : (s : List ℕ) (at end b code n : ℕ) → CodeLength s at end b code n → b ≤ at + most_bytes → length_at s at end code ≡ gives (record { body = b; size = n })
unfolding length_at
code_told s at end b code n (short h e) _ = rw (ne_eqb code 15 (omega arith), ne_eqb code 14 (omega arith), e)
code_told s at end b code n (long f) h = rw (var-uint-complete s at end b f h)

code_some : (n : ℕ) → 0 < n → 0 < head_code n
unfolding head_code
code_some n h = by_test (λ (x : ℕ). 0 < x) (ltb n 14) (λ _. h) (λ _. omega arith)

same_test : (c m n : ℕ) → eqb (c + (m + n)) (c + m) ≡ eqb n 0
same_test c m n =
    by_case (eqb n 0)
    (λ e. rw e (eq-eqb (c + (m + n)) (c + m) (omega (arith, eqb-true n 0 e))))
    (λ e. rw e (ne_eqb (c + (m + n)) (c + m) (omega (arith, eqb-false n 0 e))))

tests_then : {A B : Type 0} (x y z : Bool) (w : A) (f : A → Outcome B) → and_then (refuse_if x 23 0 (refuse_if y 25 0 (refuse_if z 26 0 (gives w)))) f ≡ refuse_if x 23 0 (refuse_if y 25 0 (refuse_if z 26 0 (f w)))
tests_then true y z w f = refl
tests_then false true z w f = refl
tests_then false false true w f = refl
tests_then false false false w f = refl

abbrev wrapping : ℕ → ℕ → ℕ → Wrapping
wrapping w m n = record { annotations = w; value = w + m; expected = n }

tests_are : (limit m n c h : ℕ) (f : Wrapping → Outcome Spans) → and_then (wrapper_tests limit 0 (h + c + m + n) (record { body = h; size = c + (m + n) }) (record { value = m; next = h + c })) f ≡ refuse_if (eqb m 0) 23 0 (refuse_if (eqb n 0) 25 0 (refuse_if (ltb limit m) 26 0 (f (wrapping (h + c) m n))))
unfolding wrapper_tests
tests_are limit m n c h f =
    let z : h + c - h + m ≡ c + m = omega arith in
    let x : c + (m + n) - (c + m) ≡ n = omega arith in
    let y : h + c + m + n - (h + c) ≡ m + n = omega arith in
    rw (z, le-ltb (c + (m + n)) (c + m) (omega arith), same_test c m n, y, le-ltb (m + n) m (omega arith), x)
    (tests_then (eqb m 0) (eqb n 0) (ltb limit m) (wrapping (h + c) m n) f)

module _ (limit : ℕ) (a v : List ℕ) (m n : ℕ) (small : in_all m n < 2 ^ 63) (lies : Laid a v m n) where
  abbrev s : List ℕ
  s = wrapper_bytes a v

  abbrev w : ℕ
  w = wrapper_size m n

  some : 0 < in_all m n
  some = omega (arith, lies.count.number.begins)

  kind : IsWrapper (kind_of (type_at s 0) (code_at s 0))
  kind = is-wrapper (type_at s 0) (code_at s 0) lies.head.type_is (omega (arith, lies.head.code_is, code_some (in_all m n) some))

  long_enough : 0 < w + m + n
  unfolding wrapper_size
  long_enough = omega (arith, head_some (in_all m n))

  other : get_or s 0 0 ≡ 224 → ⊥
  other e = omega (arith, lies.head.byte_is, head-code 14 (in_all m n), code_some (in_all m n) some)

  framed : read_value limit s 0 (w + m + n) ≡ refuse_if (eqb m 0) 23 0 (refuse_if (eqb n 0) 25 0 (refuse_if (ltb limit m) 26 0 (unwrapped s 0 (w + m + n) (wrapping w m n))))
  unfolding read_value value_at annotated_value wrapper_at annotations_at descriptor_of wrapper_size
  framed =
      let h : ℕ = head_size (in_all m n) in
      let c : ℕ = var_uint_size m in
      let z : 0 + h ≡ h = omega arith in
      let field : CodeLength s 1 (w + m + n) h (code_at s 0) (in_all m n) = subst (λ (x : ℕ). CodeLength s 1 (w + m + n) x (code_at s 0) (in_all m n)) z (rw lies.head.code_is lies.head.field) in
      rw (peeked_here s 0 (w + m + n) long_enough (omega (arith, lies.whole)), kind.wrapper, code_told s 1 (w + m + n) h (code_at s 0) (in_all m n) field (omega (arith, head_few (in_all m n) small)), var-uint-complete s h (w + m + n) (h + c) lies.count.number (omega (arith, lies.count.few)), lies.count.worth)
      (tests_are limit m n c h (unwrapped s 0 (w + m + n)))

  as_frame : read_frame limit s 0 (w + m + n) ≡ and_then (read_value limit s 0 (w + m + n)) as_valued
  unfolding read_frame frame_at read_value descriptor_of
  as_frame = rw (peeked_here s 0 (w + m + n) long_enough (omega (arith, lies.whole)), kind.pad)

-- ---- what is behind it

-- of a value's places its content asks neither its start nor its annotations
module _ (s : List ℕ) (P : Parts) (room start w : ℕ) (y : Spans) (c : List ℕ) where
  abbrev around : Spans
  around = record { byte = y.byte; start = start; annotations = w; descriptor = y.descriptor; body = y.body; end = y.end }

  content_same : and_then (read_content s around) (inside_of P room around c) ≡ and_then (read_content s y) (inside_of P room y c)
  unfolding read_content scalar_of typed_of bool_of positive_of negative_of float_of symbol_of string_of is_container
  content_same = inside_same (read_content s y)
    where
      inside_same : (o : Outcome Done) → and_then o (inside_of P room around c) ≡ and_then o (inside_of P room y c)
      inside_same (gives done) = refl
      inside_same (refuses number p) = refl

  ids_first : (o : Outcome Done) → and_then (and_then o (content_next s around)) (inside_of P room around c) ≡ and_then o (λ (d : Done). and_then (read_content s y) (inside_of P room y c))
  ids_first (gives done) = content_same
  ids_first (refuses number p) = refl

  value_alone : y.annotations ≡ y.descriptor → value_check s P room y c ≡ and_then (read_content s y) (inside_of P room y c)
  unfolding value_check read_item
  value_alone e = rw (ids_none s y.annotations y.descriptor (omega arith))

  behind_ids : y.annotations ≡ y.descriptor → value_check s P room around c ≡ and_then (read_ids s w y.descriptor) (λ (d : Done). value_check s P room y c)
  unfolding value_check read_item
  behind_ids e =
      ids_first (read_ids s w y.descriptor)
      ∙ ap (λ (o : Outcome (List ℕ)). and_then (read_ids s w y.descriptor) (λ (d : Done). o)) (sym (value_alone e))

-- the annotations' refusal counted in them, that of what follows counted behind them
ids_then : (w k : ℕ) {o o' : Outcome Done} → Counted w o o' → (f : Done → Outcome Done) (c : Outcome (List ℕ)) → f done ≡ counted_from k c → and_then o f ≡ counted_from (pick (is_refused o') w k) (and_then o' (λ (d : Done). c))
ids_then w k (both_give {a = done} {b = done}) f c e = e
ids_then w k (both_refuse {number = number} q) f c e = ap (refuses number) (sym q)

-- a body that is one value
module _ (limit : ℕ) (s : List ℕ) (g : out_of_range limit ≡ false) where
  found_single : (at end : ℕ) (y : Spans) → at < end → end ≤ length s → read_frame limit s at end ≡ gives (valued y) → found limit Sequence s (cursor at end) ≡ stop (gives (value y))
  unfolding found skip_pads tile_at framed_at
  found_single at end y h k q =
      let e : end - at ≡ suc (end - at - 1) = omega arith in
      rw (g, inside s at end (omega arith) k, e, lt-ltb at end h, q)

  single_value : (deepest at end : ℕ) (y : Spans) → at < end → end ≤ length s → read_frame limit s at end ≡ gives (valued y) → y.end ≡ end → full limit s Sequence deepest end at none ≡ value_check s (full limit s) deepest y (counting pads 0 none)
  single_value deepest at end y h k q e =
      unrolled limit s g Sequence deepest end at none (omega arith) k
      ∙ ap (on_found s (full limit s) (full limit s Sequence deepest end) deepest none) (found_single at end y h k q)
      ∙ then_given limit s g (value_check s (full limit s) deepest y (counting pads 0 none)) (full limit s Sequence deepest end y.end) (λ c.
      ap (λ (x : ℕ). full limit s Sequence deepest end x c) e ∙ full_end limit s g Sequence deepest end c)

module _ (limit deepest : ℕ) (a v : List ℕ) (l : limits_out limit deepest ≡ false) (small : in_all (length a) (length v) < 2 ^ 63) (lies : Laid a v (length a) (length v)) where
  abbrev m : ℕ
  m = length a

  abbrev n : ℕ
  n = length v

  abbrev t : List ℕ
  t = wrapper_bytes a v

  abbrev b : ℕ
  b = wrapper_size m n

  ranged : out_of_range limit ≡ false
  ranged = in_limit limit deepest l

  abbrev Answer : Outcome Done → Type 0
  Answer o = o ≡ counted_from (lent_from limit t b m) (whole_check limit deepest t)

  value_whole : read_value limit t 0 (length t) ≡ read_value limit t 0 (b + m + n)
  value_whole = ap (read_value limit t 0) lies.whole

  frame_whole : read_frame limit t 0 (length t) ≡ and_then (read_value limit t 0 (b + m + n)) as_valued
  frame_whole = ap (read_frame limit t 0) lies.whole ∙ as_frame limit a v m n small lies

  starts : 0 < length t
  starts = omega (arith, long_enough limit a v m n small lies, lies.whole)

  -- refused in its framing
  frame_refused : (number p q : ℕ) → read_value limit t 0 (b + m + n) ≡ refuses number q → q - (b + m) ≡ p → Answer (refuses number p)
  frame_refused number p q e z =
      let f : whole_check limit deepest t ≡ refuses number q = whole_refused limit t ranged deepest number q l (found_refused limit t ranged number q starts (other limit a v m n small lies) (frame_whole ∙ ap (λ (o : Outcome Spans). and_then o as_valued) e)) in
      let r : is_refused (read_value limit t 0 (length t)) ≡ true = ap is_refused (value_whole ∙ e) in
      rw (r, f) (ap (refuses number) (sym z))

  -- framed
  module _ (x : Spans) (lent : lent_value v ≡ gives x) (there : and_then (peeked_descriptor t (b + m + 0) (b + m + n)) (inner_value t (b + m + 0) (b + m + n)) ≡ gives (moved_spans (b + m) x)) where
    abbrev y : Spans
    y = moved_spans (b + m) x

    lent_typed : TypedValue v 0 n x
    unfolding lent_value
    lent_typed = each_of (inner_typed v 0 n) lent

    value_framed : 0 < n → read_frame limit t (b + m + 0) (b + m + n) ≡ gives (valued y)
    unfolding lent_value
    value_framed h =
        let o : Ordered 0 n x = each_of (inner_peeked_each v 0 n) lent in
        (values-complete limit t (b + m + 0) (b + m + n) y (plain (each_of (inner_typed t (b + m + 0) (b + m + n)) there)) (omega (arith, o.near, lent_typed.descriptor))).1

    body_counted : 0 < n → x.end ≡ n → body_check limit deepest Sequence v ≡ counted_from (b + m) (value_check t (full limit t) deepest y (counting pads 0 none))
    unfolding body_check full
    body_counted h e =
        let z : b + m + n - (b + m + 0) ≡ n = omega arith in
        let k = part_counted limit v t (b + m) 0 n ranged (omega arith) (omega (arith, lies.whole)) (λ j _ q. sym (stands_at lies.value j q)) n Sequence deepest n 0 none none (omega arith) (omega arith) (omega arith) in
        counted_is (b + m) k
        ∙ ap (counted_from (b + m))
        (ap (λ (i : ℕ). part_check limit i t Sequence deepest (b + m + n) (b + m + 0) none) (sym z)
        ∙ single_value limit t ranged deepest (b + m + 0) (b + m + n) y (omega arith) (omega (arith, lies.whole)) (value_framed h) (omega arith))

    ids_are : Counted b (read_ids a 0 m) (read_ids t b (b + m))
    ids_are =
        let z : b + 0 ≡ b = omega arith in
        subst (λ (i : ℕ). Counted b (read_ids a 0 m) (read_ids t i (b + m))) z
        (ids_counted a t b m (omega arith) (omega (arith, lies.whole)) 0 (omega arith) (λ j _ q. sym (stands_at lies.annotations j q)))

    given_whole : read_value limit t 0 (b + m + n) ≡ gives (around t (full limit t) deepest 0 b y none) → 0 < n → x.end ≡ n → Answer (and_then (read_ids a 0 m) (then_value limit deepest v))
    given_whole e h q =
        let d : b + m + x.descriptor ≡ b + m = omega (arith, lent_typed.descriptor) in
        let f : found limit _ t (cursor 0 (length t)) ≡ stop (gives (value (around t (full limit t) deepest 0 b y none)))
        = found_value limit t ranged (around t (full limit t) deepest 0 b y none) starts (other limit a v m n small lies) (frame_whole ∙ ap (λ (o : Outcome Spans). and_then o as_valued) e) in
        let r : is_refused (read_value limit t 0 (length t)) ≡ false = ap is_refused (value_whole ∙ e) in
        let u : whole_check limit deepest t ≡ and_then (read_ids t b (b + m)) (λ (_ : Done). value_check t (full limit t) deepest y (counting pads 0 none))
        = whole_value limit t ranged deepest (around t (full limit t) deepest 0 b y none) l f (omega (arith, lies.whole))
        ∙ behind_ids t (full limit t) deepest 0 b y (counting pads 0 none) (omega (arith, lent_typed.annotations, lent_typed.descriptor))
        ∙ ap (λ (i : ℕ). and_then (read_ids t b i) (λ (_ : Done). value_check t (full limit t) deepest y (counting pads 0 none))) d in
        rw (r, u)
        (ids_then b (b + m) ids_are (then_value limit deepest v) (value_check t (full limit t) deepest y (counting pads 0 none)) (body_counted h q))

    -- 29, or what is behind
    ended : read_value limit t 0 (b + m + n) ≡ unwrapped t 0 (b + m + n) (wrapping b m n) → 0 < n → Answer (judged_parts limit deepest a v x)
    unfolding judged_parts unwrapped wrapped
    ended e h =
        let z : b + m + 0 ≡ b + m = omega arith in
        let o : and_then (peeked_descriptor t (b + m) (b + m + n)) (inner_value t (b + m) (b + m + n)) ≡ gives y
        = subst (λ (i : ℕ). and_then (peeked_descriptor t i (b + m + n)) (inner_value t i (b + m + n)) ≡ gives y) z there in
        let i : b + m + x.end - (b + m + x.descriptor) ≡ x.end = omega (arith, lent_typed.descriptor) in
        let p : read_value limit t 0 (b + m + n) ≡ refuse_if (not (eqb x.end n)) 29 0 (gives (around t (full limit t) deepest 0 b y none)) = e ∙ rw (o, i) in
        by_case (not (eqb x.end n))
        (λ q. rw q (frame_refused 29 0 0 (p ∙ rw q) (omega arith)))
        (λ q. rw q (given_whole (p ∙ rw q) h (eqb-true x.end n (not-false (eqb x.end n) q))))

  value_refused : (number p : ℕ) → and_then (peeked_descriptor t (b + m + 0) (b + m + n)) (inner_value t (b + m + 0) (b + m + n)) ≡ refuses number (b + m + p) → read_value limit t 0 (b + m + n) ≡ unwrapped t 0 (b + m + n) (wrapping b m n) → Answer (refuses number p)
  unfolding unwrapped
  value_refused number p there e =
      let z : b + m + 0 ≡ b + m = omega arith in
      let o : and_then (peeked_descriptor t (b + m) (b + m + n)) (inner_value t (b + m) (b + m + n)) ≡ refuses number (b + m + p)
      = subst (λ (i : ℕ). and_then (peeked_descriptor t i (b + m + n)) (inner_value t i (b + m + n)) ≡ refuses number (b + m + p)) z there in
      frame_refused number p (b + m + p) (e ∙ rw o) (omega arith)

  by_lent : (o o' : Outcome Spans) → Moved (b + m) (moved_spans (b + m)) o o' → lent_value v ≡ o → and_then (peeked_descriptor t (b + m + 0) (b + m + n)) (inner_value t (b + m + 0) (b + m + n)) ≡ o' → read_value limit t 0 (b + m + n) ≡ unwrapped t 0 (b + m + n) (wrapping b m n) → 0 < n → Answer (and_then o (judged_parts limit deepest a v))
  by_lent o o' (given_on {a = x}) lent there e h = ended x lent there e h
  by_lent o o' (refused_on {number = number} {position = p}) lent there e h = value_refused number p there e

  tested : Answer (judged_wrapper limit deepest a v)
  unfolding judged_wrapper lent_value
  tested =
      let e = framed limit a v m n small lies in
      by_case (eqb m 0) (λ x. rw x (frame_refused 23 0 0 (e ∙ rw x) (omega arith))) (λ x.
      by_case (eqb n 0) (λ y. rw (x, y) (frame_refused 25 0 0 (e ∙ rw (x, y)) (omega arith))) (λ y.
      by_case (ltb limit m) (λ z. rw (x, y, z) (frame_refused 26 0 0 (e ∙ rw (x, y, z)) (omega arith))) (λ z.
      rw (x, y, z)
      (by_lent (lent_value v) (and_then (peeked_descriptor t (b + m + 0) (b + m + n)) (inner_value t (b + m + 0) (b + m + n)))
      (inner_moved limit v t (b + m) 0 n (omega arith) (omega (arith, lies.whole)) (λ i _ q. sym (stands_at lies.value i q)) 0 (omega arith) (omega arith))
      refl refl (e ∙ rw (x, y, z)) (omega (arith, eqb-false n 0 y))))))

pub wrappers_judged : JudgedWrappers
wrappers_judged limit deepest a v l t =
    let small : length (wrapped_bytes a v) < 2 ^ 63 = not_past (length (wrapped_bytes a v)) t in
    tested limit deepest a v l (subst (λ (x : ℕ). x < 2 ^ 63) (wrapped_length a v) small) (laid a v small)

pub wrappers_accepted : AcceptedWrappers
wrappers_accepted limit deepest a v l h =
    given_back (lent_from limit (wrapper_bytes a v) (wrapper_size (length a) (length v)) (length a)) (whole_check limit deepest (wrapper_bytes a v))
    (sym (wrappers_judged limit deepest a v l h.short) ∙ h.unrefused)
