-- What each answer of the scalar reading means of the value's bytes, and that what they mean is answered: the framing says what the descriptor and the length
-- are, and the laws of bodies the rest.
-- Assumes nothing.
use Prim.Native.Nat.{ℕ, ◌-◌, ◌/◌, ◌%◌, ◌≤◌, ◌<◌}
use native.Mathlib.Omega.{arith}
use native.Mathlib.Nat.{mod-lt, eq-or-lt_of_le}
use borrow.Author.Tests.{ltb-true, ltb-false, eqb-true, eqb-false, not-true, not-false, lt-ltb, le-ltb, eq-eqb, ne_eqb}
use mathlib.Core.Path.{◌≡◌, refl, ◌∙◌, sym, ap, subst}
use mathlib.Core.Bool.{true, false, not, true≢false}
use mathlib.Core.Logic.{◌⊎◌, ⊎_elim}
use mathlib.Core.List.{List}
use lib.ListN.{length, get_or}
use lib.Dec.{ltb, eqb}
use Rattle.numbers.specs.Format.{uint_of}
use Rattle.numbers.specs.Outcome.{Outcome, gives, pick}
use Rattle.numbers.proofs.Outcomes.{by_test, by_case, by_refusal, inside, refuse_gives}
use Rattle.framing.specs.Limits.{out_of_range}
use Rattle.framing.specs.Spans.{Spans}
use Rattle.framing.specs.Format.{short, long, ValueLength, none, null, coded, ordered, ValueType, typed, null_null, TypedValue, ValueBytes, plain, annotated}
use Rattle.framing.proofs.Soundness.{values-sound}
use Rattle.bodies.specs.Utf8.{well_formed, utf8}
use Rattle.bodies.specs.Widen.{widen_of}
use Rattle.bodies.specs.Uint.{uint_in}
use Rattle.bodies.specs.Magnitude.{significant_from}
use Rattle.bodies.proofs.BigEndian.{uint_inside}
use Rattle.bodies.proofs.Encoding.{encoded_accepted, accepted_encoded}
use Rattle.bodies.proofs.Leading.{Begins, significant_begins, significant_one, significant_end, significant_zero}
use Rattle.bodies.proofs.Widening.{widen_means, widen_fits, nans_kept, widen_one}
use Rattle.values.specs.Scalars.{value_in, type_of, code_of, Scalar, bool_of, positive_of, negative_of, float_of, symbol_of, string_of, typed_of, scalar_of, read_scalar}
use Rattle.values.specs.Meaning.{type, code, bytes, NullType, negative_int, as_coded, Magnitude, Widened, Text, Means, a_null, a_false, a_true, no_bool, a_positive, a_negative, negative_zero, no_float_bits, a_single, a_double, a_decimal, a_timestamp, a_symbol, long_symbol, a_string, no_text, a_clob, a_blob, a_container, ScalarsMeant}

-- of a framed value: its codes, which types there are, a float's codes and its length, and where its body lies
record FramedValue (s : List ℕ) (v : Spans) : Type 0 where
  type_is : type_of v ≡ type s v
  code_is : code_of v ≡ code s v
  least : code s v < 15 → 1 ≤ type s v
  most : type s v ≤ 13
  floats : type s v ≡ 4 → (code s v ≡ 0) ⊎ (code s v ≡ 4) ⊎ (code s v ≡ 8) ⊎ (code s v ≡ 15)
  size : type s v ≡ 4 → code s v < 14 → v.end - v.body ≡ code s v
  order : v.body ≤ v.end
  within : v.end ≤ length s

type_range : {t c : ℕ} → ValueType t c → (c < 15 → 1 ≤ t) × (t ≤ 13)
type_range (typed l m) = (λ _. l, m)
type_range null_null = (λ h. absurd (omega arith), omega arith)

float_size : {s : List ℕ} {at end body t c n : ℕ} → ValueLength s at end body t c n → t ≡ 4 → c < 14 → n ≡ c
float_size (none h e) t c = absurd (omega arith)
float_size (null h e) t c = absurd (omega arith)
float_size (coded h f (short l e)) t c = refl
float_size (coded h f (long l)) t c = absurd (omega arith)
float_size (ordered f) t c = absurd (omega arith)

-- a value's, from that without its annotations
of_typed : {s : List ℕ} {end : ℕ} {v w : Spans} → TypedValue s v.descriptor end w → v.byte ≡ w.byte → v.body ≡ w.body → v.end ≡ w.end → FramedValue s v
of_typed {v = v} t b d e =
    record {
      type_is = ap (λ (x : ℕ). x / 16) (b ∙ t.byte);
      code_is = ap (λ (x : ℕ). x % 16) (b ∙ t.byte);
      least = (type_range t.type).0;
      most = (type_range t.type).1;
      floats = t.legal.float;
      size = λ h l. rw (d, e) (float_size t.field h l);
      order = omega (arith, t.order);
      within = omega (arith, t.fits, t.within);
    }

of_bytes : {s : List ℕ} {at end : ℕ} {v : Spans} → ValueBytes s at end v → FramedValue s v
of_bytes {s} {at} {end} {v} (plain t) = of_typed (subst (λ (x : ℕ). TypedValue s x end v) (sym t.descriptor) t) refl refl refl
of_bytes (annotated w) = of_typed w.value w.byte w.body w.ends

null_is : {t r : ℕ} → NullType t r → pick (eqb t 3) 2 t ≡ r
null_is negative_int = refl
null_is (as_coded {t} n) = rw (ne_eqb t 3 n)

widened : (b : ℕ) → Widened b (widen_of b)
widened b = record { number = widen_means b; fits = widen_fits b; nan = nans_kept b }

module _ (s : List ℕ) (v : Spans) (f : FramedValue s v) where
  bool_means : type s v ≡ 1 → code s v < 15 → Means s v (bool_of v)
  unfolding bool_of
  bool_means t c =
      rw f.code_is
      (by_refusal (Means s v) (ltb 1 (code s v)) 33 v.descriptor (λ h. no_bool t (ltb-true 1 (code s v) h) c) (λ h.
      by_case (eqb (code s v) 1) (λ e. let o : code s v ≡ 1 = eqb-true (code s v) 1 e in rw o (a_true t o)) (λ e.
      let z : code s v ≡ 0 = omega (arith, ltb-false 1 (code s v) h, eqb-false (code s v) 1 e) in rw z (a_false t z))))

  -- where the magnitude begins
  abbrev a : ℕ
  a = significant_from s v.body v.end

  magnitude : Magnitude s v a
  magnitude =
      let b : Begins s v.body v.end a = significant_begins s v.body v.end f.order f.within in
      record { low = b.low; high = b.high; zeros = b.zeros; leading = λ l. omega (arith, b.here l); worth = b.worth }

  negative_means : type s v ≡ 3 → code s v < 15 → Means s v (negative_of s v)
  unfolding negative_of
  negative_means t c =
      by_refusal (Means s v) (eqb a v.end) 34 v.descriptor
      (λ e. negative_zero t c (significant_end s v.body v.end f.order f.within (eqb-true a v.end e)))
      (λ e.
      let n : uint_of (bytes s v) ≡ 0 → ⊥ = λ z. eqb-false a v.end e (significant_zero s v.body v.end f.order f.within z) in
      a_negative t c magnitude (omega arith))

  uint_is : v.end - v.body ≤ 8 → uint_in s v.body v.end ≡ uint_of (bytes s v)
  uint_is h = uint_inside s v.body v.end f.order f.within h

  float_means : type s v ≡ 4 → code s v < 15 → Means s v (float_of s v)
  unfolding float_of
  float_means t c =
      ⊎_elim (λ (e : code s v ≡ 0). rw (f.size t (omega arith) ∙ e) (no_float_bits t e))
      (⊎_elim
      (λ (e : code s v ≡ 4).
      let n : v.end - v.body ≡ 4 = f.size t (omega arith) ∙ e in
      rw (n, uint_is (omega arith)) (a_single t e (widened (uint_of (bytes s v)))))
      (⊎_elim
      (λ (e : code s v ≡ 8).
      let n : v.end - v.body ≡ 8 = f.size t (omega arith) ∙ e in rw (n, uint_is (omega arith)) (a_double t e))
      (λ (e : code s v ≡ 15). absurd (omega arith))))
      (f.floats t)

  symbol_means : type s v ≡ 7 → code s v < 15 → Means s v (symbol_of s v)
  unfolding symbol_of
  symbol_means t c =
      by_refusal (Means s v) (ltb 8 (v.end - v.body)) 35 v.descriptor (λ h. long_symbol t c (ltb-true 8 (v.end - v.body) h)) (λ h.
      let l : v.end - v.body ≤ 8 = ltb-false 8 (v.end - v.body) h in rw (uint_is l) (a_symbol t c l))

  text_is : Text (bytes s v) → well_formed (bytes s v) ≡ true
  text_is x = ap well_formed (sym x.2) ∙ encoded_accepted x.0 x.1

  string_means : type s v ≡ 8 → code s v < 15 → Means s v (string_of s v)
  unfolding string_of utf8
  string_means t c =
      rw (inside s v.body v.end f.order f.within)
      (by_refusal (Means s v) (not (well_formed (bytes s v))) 36 v.descriptor
      (λ h. no_text t c (λ x. true≢false (sym (text_is x) ∙ not-true (well_formed (bytes s v)) h)))
      (λ h. a_string t c (accepted_encoded (bytes s v) (not-false (well_formed (bytes s v)) h))))

  -- one line of the ladder of types
  rung : (k : ℕ) {x y : Outcome Scalar} → k ≤ type s v → (type s v ≡ k → Means s v x) → (k < type s v → Means s v y) → Means s v (pick (eqb (type s v) k) x y)
  rung k l h g =
      by_test (Means s v) (eqb (type s v) k) (λ e. h (eqb-true (type s v) k e)) (λ e. g (omega (arith, eqb-false (type s v) k e)))

  typed_means : code s v < 15 → Means s v (typed_of s v (type s v))
  unfolding typed_of positive_of
  typed_means c =
      rung 1 (f.least c) (λ t. bool_means t c) (λ l.
      rung 2 l (λ t. a_positive t c magnitude) (λ l.
      rung 3 l (λ t. negative_means t c) (λ l.
      rung 4 l (λ t. float_means t c) (λ l.
      rung 5 l (λ t. a_decimal t c) (λ l.
      rung 6 l (λ t. a_timestamp t c) (λ l.
      rung 7 l (λ t. symbol_means t c) (λ l.
      rung 8 l (λ t. string_means t c) (λ l.
      rung 9 l (λ t. a_clob t c) (λ l.
      rung 10 l (λ t. a_blob t c) (λ l. a_container l f.most c))))))))))

  null_type : NullType (type s v) (pick (eqb (type s v) 3) 2 (type s v))
  null_type =
      by_test (NullType (type s v)) (eqb (type s v) 3)
      (λ e. subst (λ (t : ℕ). NullType t 2) (sym (eqb-true (type s v) 3 e)) negative_int)
      (λ e. as_coded (eqb-false (type s v) 3 e))

  scalar_means : Means s v (scalar_of s v)
  unfolding scalar_of
  scalar_means =
      rw (f.type_is, f.code_is)
      (by_test (Means s v) (eqb (code s v) 15) (λ e. a_null (eqb-true (code s v) 15 e) null_type) (λ e.
      typed_means (omega (arith, mod-lt (get_or s v.descriptor 0) {m = 16} (omega arith), eqb-false (code s v) 15 e))))

  -- and back, from what the bytes mean to the answer: a value that is no null, by its type
  by_type : (k : ℕ) → type s v ≡ k → code s v < 15 → scalar_of s v ≡ typed_of s v k
  unfolding scalar_of
  by_type k t c = rw (f.type_is, f.code_is, ne_eqb (code s v) 15 (omega arith), t)

  begins_at : {b : ℕ} → Magnitude s v b → a ≡ b
  begins_at m =
      significant_one s v.body v.end f.order f.within
      (record { low = m.low; high = m.high; zeros = m.zeros; here = λ l z. absurd (omega (arith, m.leading l)); worth = m.worth })

  not_end : 0 < uint_of (bytes s v) → a ≡ v.end → ⊥
  not_end h e = omega (arith, significant_end s v.body v.end f.order f.within e)

  single_is : {w : ℕ} → Widened (uint_of (bytes s v)) w → widen_of (uint_of (bytes s v)) ≡ w
  single_is {w} r = widen_one (uint_of (bytes s v)) w r.number r.fits r.nan

  no_text_is : (Text (bytes s v) → ⊥) → well_formed (bytes s v) ≡ false
  no_text_is n = by_case (well_formed (bytes s v)) (λ h. absurd (n (accepted_encoded (bytes s v) h))) (λ h. h)

  scalar_is : {o : Outcome Scalar} → Means s v o → scalar_of s v ≡ o
  unfolding scalar_of typed_of bool_of positive_of negative_of float_of symbol_of string_of utf8
  scalar_is (a_null c n) = rw (f.type_is, f.code_is, c, null_is n)
  scalar_is (a_false t c) = by_type 1 t (omega arith) ∙ rw (f.code_is, c)
  scalar_is (a_true t c) = by_type 1 t (omega arith) ∙ rw (f.code_is, c)
  scalar_is (no_bool t l c) = by_type 1 t c ∙ rw (f.code_is, lt-ltb 1 (code s v) l)
  scalar_is (a_positive t c m) = by_type 2 t c ∙ rw (begins_at m)
  scalar_is (a_negative t c m p) = by_type 3 t c ∙ rw (ne_eqb a v.end (not_end p), begins_at m)
  scalar_is (negative_zero t c z) =
      by_type 3 t c ∙ rw (eq-eqb a v.end (significant_zero s v.body v.end f.order f.within z))
  scalar_is (no_float_bits t c) = by_type 4 t (omega arith) ∙ rw (f.size t (omega arith) ∙ c)
  scalar_is (a_single t c w) =
      let n : v.end - v.body ≡ 4 = f.size t (omega arith) ∙ c in
      by_type 4 t (omega arith) ∙ rw (n, uint_is (omega arith), single_is w)
  scalar_is (a_double t c) =
      let n : v.end - v.body ≡ 8 = f.size t (omega arith) ∙ c in by_type 4 t (omega arith) ∙ rw (n, uint_is (omega arith))
  scalar_is (a_decimal t c) = by_type 5 t c
  scalar_is (a_timestamp t c) = by_type 6 t c
  scalar_is (a_symbol t c l) = by_type 7 t c ∙ rw (le-ltb 8 (v.end - v.body) l, uint_is l)
  scalar_is (long_symbol t c l) = by_type 7 t c ∙ rw (lt-ltb 8 (v.end - v.body) l)
  scalar_is (a_string t c x) = by_type 8 t c ∙ rw (inside s v.body v.end f.order f.within, text_is x)
  scalar_is (no_text t c n) = by_type 8 t c ∙ rw (inside s v.body v.end f.order f.within, no_text_is n)
  scalar_is (a_clob t c) = by_type 9 t c
  scalar_is (a_blob t c) = by_type 10 t c
  scalar_is (a_container l h c) =
      ⊎_elim (λ (t : 11 ≡ type s v). by_type 11 (sym t) c)
      (λ (l : 11 < type s v).
      ⊎_elim (λ (t : 12 ≡ type s v). by_type 12 (sym t) c) (λ (l : 12 < type s v). by_type 13 (omega arith) c) (eq-or-lt_of_le l))
      (eq-or-lt_of_le l)

pub scalars_meant : ScalarsMeant
unfolding read_scalar value_in
scalars_meant limit s start end at =
    record {
      framed = λ v e. rw e (scalar_means s v (framed v e));
      complete = λ v e o m. rw e (scalar_is s v (framed v e) m);
      refused = λ n p e. rw e;
    }
  where
    framed : (v : Spans) → value_in limit s start end at ≡ gives v → FramedValue s v
    framed v e = of_bytes (values-sound limit s at end v (refuse_gives (ltb at start) 50 0 (refuse_gives (out_of_range limit) 68 0 e).1).1).0
