-- What is refused of a null, a bool, an int, a float, a symbol or a pad is what the check refuses of it as a map: the map's one value is framed and read. A pad is
-- passed, and then the map ends.
-- Assumes nothing.
use Prim.Native.Nat.{ℕ, zero, suc, ◌+◌, ◌-◌, ◌^◌, ◌≤◌, ◌<◌}
use native.Mathlib.Omega.{arith}
use borrow.Author.Tests.{lt-ltb, le-ltb, ltb-true, ltb-false, eqb-true, eqb-false, eq-eqb, ne_eqb}
use mathlib.Core.Path.{◌≡◌, refl, ◌∙◌, sym, ap, subst}
use mathlib.Core.Bool.{Bool, true, false}
use mathlib.Core.List.{List, [], ◌∷◌, ◌++◌}
use lib.ListN.{length, get_or}
use lib.Dec.{ltb, eqb}
use Rattle.numbers.specs.Outcome.{Outcome, gives, refuses, and_then}
use Rattle.numbers.proofs.Outcomes.{by_test, by_case, inside}
use Rattle.framing.specs.Limits.{out_of_range}
use Rattle.framing.specs.Answers.{padding, valued, read_frame}
use Rattle.framing.specs.ShortValue.{bare_spans}
use Rattle.framing.specs.Format.{plain}
use Rattle.framing.proofs.Completeness.{values-complete}
use Rattle.stepping.specs.Items.{finish}
use Rattle.stepping.specs.Answers.{passing, stop, framed_at, tile_at, skip_pads, found}
use Rattle.stepping.specs.Runs.{cursor}
use Rattle.stepping.specs.declared.cursor.Rules.TheVariants.{Stream}
use Rattle.values.specs.Scalars.{Scalar, is_container, scalar_of, typed_of, bool_of, positive_of, negative_of, float_of, symbol_of}
use Rattle.walking.specs.Walk.{limits_out}
use Rattle.walking.proofs.Depths.{in_limit}
use Rattle.checking.specs.Counts.{none, pads, counting}
use Rattle.checking.specs.Reading.{Done, done, read_body, read_content}
use Rattle.checking.specs.Check.{on_found, whole_check}
use Rattle.checking.specs.Private.Whole.{full}
use Rattle.checking.proofs.Unrolled.{unrolled, whole_in}
use Rattle.encoding.specs.Heads.{head_bytes, head_byte, head_size, typed_bytes, typed_spans}
use Rattle.encoding.specs.Meaning.{StandsAt, Writable}
use Rattle.encoding.proofs.Heads.{head_type, head-code, head_some, head_length, typed_length, typed-back}
use Rattle.encoding.proofs.Standing.{stands_rest}
use Rattle.writing.specs.Things.{int_type, significant, float_body, symbol_body, null_byte, bool_byte, pad_field, pad_bytes, written}
use Rattle.writing.specs.Answers.{judged_int, no_pad}
use Rattle.writing.specs.Theorems.{PadBack}
use Rattle.writing.specs.Judged.{counted_from, a_null, a_bool, an_int, a_float, a_symbol, a_pad, JudgedBare, AcceptedBare}
use Rattle.writing.proofs.Lengths.{not_past}
use Rattle.writing.proofs.Pads.{pad_some, pad_short, pad_long}
use Rattle.writing.proofs.PadsBack.{pads-back}
use Rattle.writing.proofs.Back.{float_size, float_few, symbol_few, sign_low, sign_high}
use Rattle.writing.proofs.OneByteValues.{null_framed, bool_framed}
use Rattle.writing.proofs.ScalarsBack.{lead, first_is, size_is, null_code}
use Rattle.writing.proofs.ChecksMoved.{Counted, both_give, both_refuse}
use Rattle.writing.proofs.Judging.{stands_whole, found_value, whole_value, code_known, given_back}
use Rattle.writing.proofs.ScalarsJudged.{container_not, counted_done, value_read}

-- ---- what is read of each

int-read : (s : List ℕ) (n : ℕ) → read_content s (typed_spans 2 0 n) ≡ gives done
unfolding read_content scalar_of typed_of positive_of
int-read s n = rw (head-code 2 n, code_known n, head_type 2 n)

negative_read : (m : List ℕ) → read_content (typed_bytes 3 (significant m)) (typed_spans 3 0 (length (significant m))) ≡ judged_int true m
unfolding read_content scalar_of typed_of negative_of judged_int typed_bytes
negative_read m =
    let n : ℕ = length (significant m) in
    let s : List ℕ = head_bytes 3 n ++ significant m in
    let b : ℕ = 0 + head_size n in
    let upper : StandsAt s (0 + length (head_bytes 3 n)) (length s) (significant m) = stands_rest (head_bytes 3 n) (significant m) (stands_whole s) in
    let there : StandsAt s b (length s) (significant m) = subst (λ (x : ℕ). StandsAt s (0 + x) (length s) (significant m)) (head_length 3 n) upper in
    rw (head-code 3 n, code_known n, head_type 3 n, first_is s b (significant m) there.fits there.same (lead m))
    (by_case (eqb n 0)
    (λ e. rw (e, eq-eqb b (b + n) (omega (arith, eqb-true n 0 e))))
    (λ e. rw (e, ne_eqb b (b + n) (omega (arith, eqb-false n 0 e)))))

float_read : (s : List ℕ) (n : ℕ) → read_content s (typed_spans 4 0 n) ≡ gives done
unfolding read_content scalar_of typed_of float_of
float_read s n =
    rw (head-code 4 n, code_known n, head_type 4 n)
    (by_test (λ (o : Outcome Scalar). and_then o (read_body s 0) ≡ gives done) (eqb (0 + head_size n + n - (0 + head_size n)) 0) (λ _. refl) (λ _.
    by_test (λ (o : Outcome Scalar). and_then o (read_body s 0) ≡ gives done) (eqb (0 + head_size n + n - (0 + head_size n)) 4) (λ _. refl) (λ _. refl)))

symbol_read : (s : List ℕ) (n : ℕ) → n ≤ 8 → read_content s (typed_spans 7 0 n) ≡ gives done
unfolding read_content scalar_of typed_of symbol_of
symbol_read s n h = rw (head-code 7 n, code_known n, head_type 7 n, size_is 0 n, le-ltb 8 n h)

null_read : (s : List ℕ) (type body end : ℕ) → read_content s (bare_spans (null_byte type) 0 body end) ≡ gives done
unfolding read_content scalar_of
null_read s type body end = rw (null_code type)

null_single : (type body end : ℕ) → is_container (bare_spans (null_byte type) 0 body end) ≡ false
unfolding is_container
null_single type body end = rw (null_code type)

bool_read : (s : List ℕ) (value : Bool) (body end : ℕ) → read_content s (bare_spans (bool_byte value) 0 body end) ≡ gives done
unfolding read_content scalar_of typed_of bool_of bool_byte
bool_read s true body end = refl
bool_read s false body end = refl

bool_single : (value : Bool) (body end : ℕ) → is_container (bare_spans (bool_byte value) 0 body end) ≡ false
unfolding is_container bool_byte
bool_single true body end = refl
bool_single false body end = refl

bool_other : (value : Bool) → bool_byte value ≡ 224 → ⊥
unfolding bool_byte
bool_other true e = omega arith
bool_other false e = omega arith

pad_other : (size : ℕ) → 0 < size → get_or (pad_bytes size) 0 0 ≡ 224 → ⊥
pad_other size h e =
    by_case (ltb size 15)
    (λ q. omega (arith, ltb-true size 15 q, e, ap (λ (l : List ℕ). get_or l 0 0) (pad_short size (ltb-true size 15 q))))
    (λ q. omega (arith, e, ap (λ (l : List ℕ). get_or l 0 0) (pad_long size (ltb-false size 15 q))))

-- ---- each as a map

same_counted : (o : Outcome Done) → Counted 0 o o
same_counted (gives d) = both_give
same_counted (refuses number p) = both_refuse (let z : p - 0 ≡ p = omega arith in z)

module _ (limit deepest : ℕ) (l : limits_out limit deepest ≡ false) where
  g : out_of_range limit ≡ false
  g = in_limit limit deepest l

  value_judged : (s : List ℕ) (byte body end : ℕ) → 0 < length s → (get_or s 0 0 ≡ 224 → ⊥) → read_frame limit s 0 (length s) ≡ gives (valued (bare_spans byte 0 body end)) → end ≡ length s → is_container (bare_spans byte 0 body end) ≡ false → read_content s (bare_spans byte 0 body end) ≡ counted_from 0 (whole_check limit deepest s)
  value_judged s byte body end some other frame e single =
      let c : List ℕ = counting pads 0 none in
      counted_done 0 (full limit s) deepest (bare_spans byte 0 body end) c single (same_counted (read_content s (bare_spans byte 0 body end)))
      ∙ sym (ap (counted_from 0)
      (whole_value limit s g deepest (bare_spans byte 0 body end) l (found_value limit s g (bare_spans byte 0 body end) some other frame) e
      ∙ value_read s (full limit s) deepest byte body end c))

  typed_judged : (type : ℕ) (body : List ℕ) → Writable type (length body) → type ≤ 10 → read_content (typed_bytes type body) (typed_spans type 0 (length body)) ≡ counted_from 0 (whole_check limit deepest (typed_bytes type body))
  typed_judged type body w h =
      let n : ℕ = length body in
      let s : List ℕ = typed_bytes type body in
      let size : length s ≡ head_size n + n = typed_length type body in
      let v = typed-back s 0 (length s) type body w (stands_whole s) in
      value_judged s (head_byte type n) (0 + head_size n) (0 + head_size n + n)
      (omega (arith, head_some n))
      (λ q. absurd (omega (arith, head_type type n, v.0.byte)))
      (values-complete limit s 0 (length s) (typed_spans type 0 n) (plain v.0) (omega (arith, v.1))).1
      (omega arith)
      (container_not type n h)

  pads_end : (k end : ℕ) (s : List ℕ) → skip_pads limit k Stream s end end ≡ stop (gives (finish end))
  unfolding skip_pads
  pads_end zero end s = refl
  pads_end (suc k) end s = rw (le-ltb end end (omega arith))

  found_pad : (s : List ℕ) (body : ℕ) → 0 < length s → (get_or s 0 0 ≡ 224 → ⊥) → read_frame limit s 0 (length s) ≡ gives (padding (record { body = body; end = length s })) → found limit Stream s (cursor 0 (length s)) ≡ passing (record { start = 0; body = body; end = length s }) (stop (gives (finish (length s))))
  unfolding found skip_pads tile_at framed_at
  found_pad s body h n q =
      let e : length s - 0 ≡ suc (length s - 1) = omega arith in
      rw (g, inside s 0 (length s) (omega arith) (omega arith), e, lt-ltb 0 (length s) h, ne_eqb (get_or s 0 0) 224 n, q)
      (ap (passing (record { start = 0; body = body; end = length s })) (pads_end (length s - 1) (length s) s))

  -- "Pads count one each"
  pad_whole : (s : List ℕ) (body : ℕ) → found limit Stream s (cursor 0 (length s)) ≡ passing (record { start = 0; body = body; end = length s }) (stop (gives (finish (length s)))) → whole_check limit deepest s ≡ gives (counting pads 1 none)
  pad_whole s body f =
      sym (whole_in limit deepest s l)
      ∙ unrolled limit s g Stream deepest (length s) 0 none (omega arith) (omega arith)
      ∙ ap (on_found s (full limit s) (full limit s Stream deepest (length s)) deepest none) f

  pad_judged : (size : ℕ) → no_pad size ≡ false → whole_check limit deepest (pad_bytes size) ≡ gives (counting pads 1 none)
  pad_judged size t =
      let s : List ℕ = pad_bytes size in
      let some : 0 < size = pad_some size t in
      let p : PadBack limit s 0 (length s) size = pads-back limit deepest size (record { inside = refl; short = t; unrefused = refl }) s 0 (length s) (stands_whole s) in
      let e : 0 + size ≡ length s = omega (arith, p.whole) in
      pad_whole s (0 + 1 + pad_field size)
      (found_pad s (0 + 1 + pad_field size) (omega (arith, p.whole)) (pad_other size some)
      (subst (λ (x : ℕ). read_frame limit s 0 (length s) ≡ gives (padding (record { body = 0 + 1 + pad_field size; end = x }))) e p.framed))

  int_writable : (negative : Bool) (n : ℕ) → n < 2 ^ 63 → Writable (int_type negative) n
  int_writable b n h =
      record {
        low = sign_low b;
        high = omega (arith, sign_high b);
        float = λ e. absurd (omega (arith, sign_high b));
        timestamp = λ e. absurd (omega (arith, sign_high b));
        struct = λ e _. absurd (omega (arith, sign_high b));
        small = h;
      }

pub bare_judged : JudgedBare
unfolding judged_int
bare_judged limit deepest thing (a_null {type = type}) l i t =
    let s : List ℕ = null_byte type ∷ [] in
    sym (null_read s type 1 1)
    ∙ value_judged limit deepest l s (null_byte type) 1 1 (omega arith) (λ e. absurd (omega (arith, null_code type)))
    (null_framed limit type (ltb-false 13 type i) s 0 1 (stands_whole s)).1 refl (null_single type 1 1)
bare_judged limit deepest thing (a_bool {value = value}) l i t =
    let s : List ℕ = bool_byte value ∷ [] in
    sym (bool_read s value 1 1)
    ∙ value_judged limit deepest l s (bool_byte value) 1 1 (omega arith) (bool_other value) (bool_framed limit value s 0 1 (stands_whole s)).1 refl (bool_single value 1 1)
bare_judged limit deepest thing (an_int {negative = false} {magnitude = m}) l i t =
    sym (int-read (typed_bytes 2 (significant m)) (length (significant m)))
    ∙ typed_judged limit deepest l 2 (significant m) (int_writable limit deepest l false (length (significant m)) (not_past (length (significant m)) t)) (omega arith)
bare_judged limit deepest thing (an_int {negative = true} {magnitude = m}) l i t =
    sym (negative_read m)
    ∙ typed_judged limit deepest l 3 (significant m) (int_writable limit deepest l true (length (significant m)) (not_past (length (significant m)) t)) (omega arith)
bare_judged limit deepest thing (a_float {bits = bits}) l i t =
    let w : Writable 4 (length (float_body bits)) = record { low = omega arith; high = omega arith; float = λ _. float_size bits; timestamp = λ e. absurd (omega arith); struct = λ e _. absurd (omega arith); small = omega (arith, float_few bits) } in
    sym (float_read (typed_bytes 4 (float_body bits)) (length (float_body bits)))
    ∙ typed_judged limit deepest l 4 (float_body bits) w (omega arith)
bare_judged limit deepest thing (a_symbol {id = id}) l i t =
    let w : Writable 7 (length (symbol_body id)) = record { low = omega arith; high = omega arith; float = λ e. absurd (omega arith); timestamp = λ e. absurd (omega arith); struct = λ e _. absurd (omega arith); small = omega (arith, symbol_few id) } in
    sym (symbol_read (typed_bytes 7 (symbol_body id)) (length (symbol_body id)) (symbol_few id))
    ∙ typed_judged limit deepest l 7 (symbol_body id) w (omega arith)
bare_judged limit deepest thing (a_pad {size = size}) l i t = sym (ap (counted_from 0) (pad_judged limit deepest l size t))

pub bare_accepted : AcceptedBare
bare_accepted limit deepest thing k l h =
    given_back 0 (whole_check limit deepest (written thing)) (sym (bare_judged limit deepest thing k l h.inside h.short) ∙ h.unrefused)
