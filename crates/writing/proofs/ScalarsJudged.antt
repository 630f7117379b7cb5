-- What is refused of a scalar that is given as a body is what the check refuses of it as a map: the map's one value is framed, unless it is a timestamp under two
-- bytes, and its body is read as it is by itself.
-- Assumes nothing.
use Prim.Native.Nat.{ℕ, suc, ◌+◌, ◌-◌, ◌*◌, ◌/◌, ◌%◌, ◌≤◌, ◌<◌}
use native.Mathlib.Omega.{arith}
use borrow.Author.Tests.{lt-ltb, le-ltb, ltb-true, ltb-false, eqb-true, eq-eqb, ne_eqb, not-false}
use mathlib.Core.Path.{◌≡◌, refl, ◌∙◌, sym, ap, subst}
use mathlib.Core.Bool.{Bool, true, false, not, true≢false}
use mathlib.Core.List.{List, [], ◌∷◌, ◌++◌}
use lib.ListN.{length, get_or}
use lib.Dec.{ltb, eqb}
use Rattle.numbers.specs.Outcome.{Outcome, gives, refuses, and_then, outside_of}
use Rattle.numbers.specs.Descriptor.{descriptor_of, kind_of}
use Rattle.numbers.proofs.Outcomes.{by_test, by_case, inside}
use Rattle.framing.specs.Limits.{out_of_range}
use Rattle.framing.specs.Spans.{Spans}
use Rattle.framing.specs.Answers.{peeked_descriptor, length_at, value_code, bad_float, short_timestamp, length_tests, value_length, value_without_annotations, value_at, frame_at, valued, read_frame}
use Rattle.framing.specs.ShortValue.{bare_spans}
use Rattle.framing.specs.Format.{plain}
use Rattle.framing.proofs.Completeness.{values-complete}
use Rattle.stepping.specs.Answers.{stop, framed_at, tile_at, skip_pads, found}
use Rattle.stepping.specs.Runs.{cursor}
use Rattle.stepping.specs.declared.cursor.Rules.TheVariants.{Stream}
use Rattle.values.specs.Scalars.{is_container, scalar_of, typed_of, positive_of, negative_of, float_of, symbol_of, string_of}
use Rattle.walking.specs.Walk.{limits_out}
use Rattle.walking.proofs.Depths.{in_limit}
use Rattle.checking.specs.Counts.{none, pads, counting}
use Rattle.checking.specs.Reading.{Done, done, read_content, read_item}
use Rattle.checking.specs.Check.{Parts, inside_of, value_check, on_found, whole_check}
use Rattle.checking.specs.Private.Whole.{full}
use Rattle.checking.proofs.Ids.{ids_none}
use Rattle.checking.proofs.Unrolled.{unrolled, whole_in}
use Rattle.encoding.specs.Heads.{head_bytes, head_code, head_byte, head_size, typed_bytes, typed_spans}
use Rattle.encoding.specs.Meaning.{StandsAt, Writable}
use Rattle.encoding.proofs.Heads.{head_type, head-code, head_some, head_length, typed_length, typed-back}
use Rattle.encoding.proofs.Standing.{stands_at, stands_rest}
use Rattle.writing.specs.Answers.{has_body, past_nine, judged_scalar}
use Rattle.writing.specs.Judged.{counted_from, JudgedScalars, AcceptedScalars}
use Rattle.writing.proofs.Lengths.{not_past}
use Rattle.writing.proofs.ChecksMoved.{Counted, both_give, both_refuse, content_counted}
use Rattle.writing.proofs.Judging.{stands_whole, found_value, whole_value, code_known, given_back}

-- a type that is given as a body
record Body (type : ℕ) : Type 0 where
  low : 5 ≤ type
  high : type ≤ 10

body_type : (type : ℕ) → not (has_body type) ≡ false → Body type
unfolding has_body
body_type type =
    by_test (λ (b : Bool). not b ≡ false → Body type) (ltb type 5) (λ _ h. absurd (true≢false h)) (λ a.
    by_test (λ (b : Bool). not b ≡ false → Body type) (eqb type 7) (λ _ h. absurd (true≢false h)) (λ _ h.
    record { low = ltb-false type 5 a; high = omega (arith, ltb-true type 11 (not-false (ltb type 11) h)) }))

-- ---- a timestamp under two bytes

frame_short : (limit : ℕ) (body : List ℕ) → length body < 2 → read_frame limit (head_bytes 6 (length body) ++ body) 0 (length (head_bytes 6 (length body) ++ body)) ≡ refuses 31 0
unfolding read_frame frame_at value_at value_without_annotations value_length length_at length_tests value_code bad_float short_timestamp peeked_descriptor outside_of descriptor_of kind_of head_bytes head_byte head_code
frame_short limit [] h = refl
frame_short limit (b ∷ []) h = refl
frame_short limit (b ∷ c ∷ bs) h = absurd (omega arith)

byte_short : (body : List ℕ) → length body < 2 → get_or (head_bytes 6 (length body) ++ body) 0 0 ≡ 224 → ⊥
unfolding head_bytes head_byte head_code
byte_short [] h e = omega arith
byte_short (b ∷ []) h e = omega arith
byte_short (b ∷ c ∷ bs) h e = omega arith

module _ (limit : ℕ) (s : List ℕ) (g : out_of_range limit ≡ false) where
  pub found_refused : (number position : ℕ) → 0 < length s → (get_or s 0 0 ≡ 224 → ⊥) → read_frame limit s 0 (length s) ≡ refuses number position → found limit Stream s (cursor 0 (length s)) ≡ stop (refuses number position)
  unfolding found skip_pads tile_at framed_at
  found_refused number position h n q =
      let e : length s - 0 ≡ suc (length s - 1) = omega arith in
      rw (g, inside s 0 (length s) (omega arith) (omega arith), e, lt-ltb 0 (length s) h, ne_eqb (get_or s 0 0) 224 n, q)

  pub whole_refused : (deepest number position : ℕ) → limits_out limit deepest ≡ false → found limit Stream s (cursor 0 (length s)) ≡ stop (refuses number position) → whole_check limit deepest s ≡ refuses number position
  whole_refused deepest number position l f =
      sym (whole_in limit deepest s l)
      ∙ unrolled limit s g Stream deepest (length s) 0 none (omega arith) (omega arith)
      ∙ ap (on_found s (full limit s) (full limit s Stream deepest (length s)) deepest none) f

-- ---- the reading

-- of the descriptor's byte the reading asks its type alone
byte_free : (body : List ℕ) (type n : ℕ) → Body type → read_content body (bare_spans (type * 16) 0 0 n) ≡ read_content body (bare_spans (head_byte type n) 0 0 n)
unfolding read_content scalar_of typed_of positive_of negative_of float_of symbol_of string_of
byte_free body type n t =
    let x : type * 16 % 16 ≡ 0 = omega arith in
    let y : type * 16 / 16 ≡ type = omega arith in
    rw (x, y, head-code type n, code_known n, head_type type n, ne_eqb type 1 (omega (arith, t.low)))

pub container_not : (type n : ℕ) → type ≤ 10 → is_container (typed_spans type 0 n) ≡ false
unfolding is_container
container_not type n h = rw (head-code type n, code_known n, head_type type n, le-ltb 10 type h)

pub value_read : (s : List ℕ) (P : Parts) (deepest byte body end : ℕ) (c : List ℕ) → value_check s P deepest (bare_spans byte 0 body end) c ≡ and_then (read_content s (bare_spans byte 0 body end)) (inside_of P deepest (bare_spans byte 0 body end) c)
unfolding value_check read_item
value_read s P deepest byte body end c = rw (ids_none s 0 0 (omega arith))

pub counted_done : (n : ℕ) (P : Parts) (deepest : ℕ) (v : Spans) (c : List ℕ) {o o' : Outcome Done} → is_container v ≡ false → Counted n o o' → o ≡ counted_from n (and_then o' (inside_of P deepest v c))
counted_done n P deepest v c e (both_give {a = done} {b = done}) = rw e
counted_done n P deepest v c e (both_refuse {number = k} q) = ap (refuses k) (sym q)

typed_is : (type : ℕ) (body : List ℕ) → head_bytes type (length body) ++ body ≡ typed_bytes type body
unfolding typed_bytes
typed_is type body = refl

six : (body : List ℕ) → head_bytes 6 (length body) ++ body ≡ typed_bytes 6 body
six body = typed_is 6 body

-- which timestamps are short
short_type : (type n : ℕ) → short_timestamp type 0 n ≡ true → type ≡ 6
unfolding short_timestamp
short_type type n = by_test (λ (b : Bool). b ≡ true → type ≡ 6) (eqb type 6) (λ e _. eqb-true type 6 e) (λ _ h. absurd (true≢false (sym h)))

short_size : (type n : ℕ) → short_timestamp type 0 n ≡ true → n < 2
unfolding short_timestamp
short_size type n = by_test (λ (b : Bool). b ≡ true → n < 2) (eqb type 6) (λ _ h. ltb-true n 2 h) (λ _ h. absurd (true≢false (sym h)))

long_size : (type n : ℕ) → short_timestamp type 0 n ≡ false → type ≡ 6 → 2 ≤ n
unfolding short_timestamp
long_size type n h e = ltb-false n 2 (rw (eq-eqb type 6 e) at h)

too_short : (limit deepest type : ℕ) (body : List ℕ) → limits_out limit deepest ≡ false → out_of_range limit ≡ false → short_timestamp type 0 (length body) ≡ true → refuses 31 0 ≡ counted_from (head_size (length body)) (whole_check limit deepest (head_bytes type (length body) ++ body))
too_short limit deepest type body l g e =
    let n : ℕ = length body in
    let k : n < 2 = short_size type n e in
    let s : List ℕ = head_bytes 6 n ++ body in
    let z : 0 - head_size n ≡ 0 = omega arith in
    let size : length s ≡ head_size n + n = ap length (six body) ∙ typed_length 6 body in
    let w : whole_check limit deepest s ≡ refuses 31 0 = whole_refused limit s g deepest 31 0 l (found_refused limit s g 31 0 (omega (arith, head_some n)) (byte_short body k) (frame_short limit body k)) in
    ap (refuses 31) (sym z) ∙ sym (ap (λ (x : ℕ). counted_from (head_size n) (whole_check limit deepest (head_bytes x n ++ body))) (short_type type n e) ∙ ap (counted_from (head_size n)) w)

long_enough : (limit deepest type : ℕ) (body : List ℕ) → limits_out limit deepest ≡ false → out_of_range limit ≡ false → Body type → past_nine (length body) ≡ false → short_timestamp type 0 (length body) ≡ false → read_content body (bare_spans (type * 16) 0 0 (length body)) ≡ counted_from (head_size (length body)) (whole_check limit deepest (head_bytes type (length body) ++ body))
long_enough limit deepest type body l g ty t e =
    let n : ℕ = length body in
    let s : List ℕ = head_bytes type n ++ body in
    let h : ℕ = head_size n in
    let size : length s ≡ h + n = ap length (typed_is type body) ∙ typed_length type body in
    let b : StandsAt s 0 (length s) s = stands_whole s in
    let w : Writable type n = record { low = omega (arith, ty.low); high = omega (arith, ty.high); float = λ q. absurd (omega (arith, ty.low)); timestamp = λ q. long_size type n e q; struct = λ q _. absurd (omega (arith, ty.high)); small = not_past n t } in
    let v = typed-back s 0 (length s) type body w (subst (StandsAt s 0 (length s)) (typed_is type body) b) in
    let frame : read_frame limit s 0 (length s) ≡ gives (valued (typed_spans type 0 n)) = (values-complete limit s 0 (length s) (typed_spans type 0 n) (plain v.0) (omega (arith, v.1))).1 in
    let byte : get_or s 0 0 ≡ head_byte type n = sym v.0.byte in
    let f = found_value limit s g (typed_spans type 0 n) (omega (arith, v.0.low, v.0.order, v.0.fits)) (λ q. absurd (omega (arith, head_type type n, byte, ty.high))) frame in
    let upper : StandsAt s (0 + length (head_bytes type n)) (length s) body = stands_rest (head_bytes type n) body b in
    let place : 0 + length (head_bytes type n) ≡ h = omega (arith, head_length type n) in
    let there : StandsAt s h (length s) body = subst (λ (x : ℕ). StandsAt s x (length s) body) place upper in
    let k = content_counted body s h (bare_spans (head_byte type n) 0 0 n) (typed_spans type 0 n) refl (omega arith) (omega arith) (omega arith) (omega arith) (omega arith) (omega arith) (λ j _ q. sym (stands_at there j q)) in
    byte_free body type n ty
    ∙ counted_done h (full limit s) deepest (typed_spans type 0 n) (counting pads 0 none) (container_not type n ty.high) k
    ∙ sym (ap (counted_from h)
    (whole_value limit s g deepest (typed_spans type 0 n) l f (omega arith)
    ∙ value_read s (full limit s) deepest (head_byte type n) (0 + h) (0 + h + n) (counting pads 0 none)))

pub scalars_judged : JudgedScalars
unfolding judged_scalar typed_bytes
scalars_judged limit deepest type body l i t =
    let n : ℕ = length body in
    let s : List ℕ = head_bytes type n ++ body in
    let h : ℕ = head_size n in
    let g : out_of_range limit ≡ false = in_limit limit deepest l in
    let ty : Body type = body_type type i in
    by_case (short_timestamp type 0 n) (λ e. rw e (too_short limit deepest type body l g e)) (λ e. rw e (long_enough limit deepest type body l g ty t e))

pub scalars_accepted : AcceptedScalars
scalars_accepted limit deepest type body l h =
    given_back (head_size (length body)) (whole_check limit deepest (typed_bytes type body)) (sym (scalars_judged limit deepest type body l h.inside h.short) ∙ h.unrefused)
