-- A wrapper that is written is read as that wrapper, wherever it stands: its annotations and its value are there, and the value is framed as by itself.
-- Assumes nothing.
use Prim.Native.Nat.{ℕ, ◌+◌, ◌-◌, ◌≤◌}
use native.Mathlib.Omega.{arith}
use borrow.Author.Tests.{ltb-false, eqb-false, eqb-true, not-false}
use mathlib.Core.Path.{◌≡◌, refl, ◌∙◌, sym, ap, subst}
use mathlib.Core.Bool.{not}
use mathlib.Core.List.{List, ◌++◌}
use lib.ListN.{length}
use lib.Dec.{ltb, eqb}
use Rattle.numbers.specs.Outcome.{Outcome, gives, and_then}
use Rattle.numbers.specs.Format.{NumberAt}
use Rattle.numbers.specs.declared.type_descriptor.TypeDescriptor.{TypeDescriptor}
use Rattle.numbers.proofs.Outcomes.{refuse_gives, then_gives, Each, each_refuse, each_then, each_of}
use Rattle.numbers.proofs.Moving.{Moved, given_on, refused_on}
use Rattle.framing.specs.Spans.{Spans}
use Rattle.framing.specs.Answers.{peeked_descriptor, inner_value, is_wrapper, is_pad}
use Rattle.framing.specs.Format.{CodeLength, short, long, ValueLength, none, null, coded, ordered, TypedValue, annotated}
use Rattle.framing.proofs.Bounds.{peeked_each, Ordered, inner_peeked_each}
use Rattle.framing.proofs.Soundness.{here, plain_sound}
use Rattle.framing.proofs.Completeness.{values-complete}
use Rattle.checking.specs.Reading.{done}
use Rattle.encoding.specs.Fields.{var_uint_size, var_uint_bytes}
use Rattle.encoding.specs.Heads.{head_bytes, head_size, typed_bytes, wrapped_bytes, wrapper_bytes, wrapper_size, wrapper_spans}
use Rattle.encoding.specs.Meaning.{StandsAt, Wrapper}
use Rattle.encoding.proofs.VarUInts.{bytes_size}
use Rattle.encoding.proofs.Heads.{head_length, wrapped_length, wrapper_length, wrapper-back}
use Rattle.encoding.proofs.Standing.{stands_at, stands_first, stands_rest}
use Rattle.writing.specs.Answers.{lent_value, judged_parts, judged_wrapper}
use Rattle.writing.specs.Back.{WrappersBack}
use Rattle.writing.proofs.FramesMoved.{moved_spans, inner_moved}
use Rattle.writing.proofs.Lengths.{not_past}

-- ---- what is not refused

pub record Lent (limit deepest : ℕ) (annotations value : List ℕ) : Type 0 where
  pub inner : Spans
  pub lent : lent_value value ≡ gives inner
  pub some : length annotations ≡ 0 → ⊥
  pub more : length value ≡ 0 → ⊥
  pub few : length annotations ≤ limit
  pub ends : inner.end ≡ length value

pub lent_of : (limit deepest : ℕ) (annotations value : List ℕ) → judged_wrapper limit deepest annotations value ≡ gives done → Lent limit deepest annotations value
unfolding judged_wrapper judged_parts
lent_of limit deepest a v h =
    let p = refuse_gives (eqb (length a) 0) 23 0 h in
    let q = refuse_gives (eqb (length v) 0) 25 0 p.1 in
    let r = refuse_gives (ltb limit (length a)) 26 0 q.1 in
    let t = then_gives (lent_value v) (judged_parts limit deepest a v) r.1 in
    let e = refuse_gives (not (eqb t.0.end (length v))) 29 0 t.2 in
    record {
      inner = t.0;
      lent = t.1;
      some = eqb-false (length a) 0 p.0;
      more = eqb-false (length v) 0 q.0;
      few = ltb-false limit (length a) r.0;
      ends = eqb-true t.0.end (length v) (not-false (eqb t.0.end (length v)) e.0);
    }

-- ---- a value by itself

pub inner_typed : (s : List ℕ) (at end : ℕ) → Each (TypedValue s at end) (and_then (peeked_descriptor s at end) (inner_value s at end))
unfolding inner_value
inner_typed s at end =
    each_then (peeked_each s at end) (λ d b.
    subst (λ (x : TypeDescriptor). Each (TypedValue s at end) (inner_value s at end x)) (sym b.is)
    (each_refuse (is_wrapper (here s at).kind) 27 at (λ _. each_refuse (is_pad (here s at).kind) 28 at (λ _. plain_sound s at end b.before b.inside))))

-- in a part that ends further on
module _ (s : List ℕ) (e end : ℕ) (l : e ≤ end) (k : end ≤ length s) where
  number_wide : {at next : ℕ} → NumberAt s at e next → NumberAt s at end next
  number_wide n = record { bytes = n.bytes; begins = n.begins; ends = omega (arith, n.ends); within = k }

  code_wide : {at body code n : ℕ} → CodeLength s at e body code n → CodeLength s at end body code n
  code_wide (short h q) = short h q
  code_wide (long f) = long (number_wide f)

  field_wide : {at body type code n : ℕ} → ValueLength s at e body type code n → ValueLength s at end body type code n
  field_wide (none h q) = none h q
  field_wide (null h q) = null h q
  field_wide (coded h never f) = coded h never (code_wide f)
  field_wide (ordered f) = ordered (code_wide f)

  typed_wide : {at : ℕ} {v : Spans} → TypedValue s at e v → TypedValue s at end v
  typed_wide t =
      record {
        type = t.type;
        field = field_wide t.field;
        legal = t.legal;
        byte = t.byte;
        start = t.start;
        annotations = t.annotations;
        descriptor = t.descriptor;
        low = t.low;
        order = t.order;
        fits = omega (arith, t.fits);
        within = k;
      }

moved_given : {A : Type 0} {n : ℕ} {f : A → A} {o o' : Outcome A} {a : A} → Moved n f o o' → o ≡ gives a → o' ≡ gives (f a)
moved_given {f = f} {a = a} (given_on {a = b}) e = let q : b ≡ a = cc in ap (λ x. gives (f x)) q
moved_given refused_on e = absurd (let z : ◌≡◌ {A = ℕ} 0 1 = cc in omega arith)

spans_are : (v : Spans) (at w d m : ℕ) → v.descriptor ≡ d → d ≡ w + m → ◌≡◌ {A = Spans} (record { byte = v.byte; start = at; annotations = v.descriptor - m; descriptor = v.descriptor; body = v.body; end = v.end }) (record { byte = v.byte; start = at; annotations = w; descriptor = d; body = v.body; end = v.end })
spans_are v at w d m e q = let z : w + m - m ≡ w = omega arith in rw (e, q, z)

pub wrappers-back : WrappersBack
unfolding wrapper_bytes typed_bytes wrapped_bytes wrapper_size lent_value
wrappers-back limit deepest a v h s at end b =
    let m : ℕ = length a in
    let n : ℕ = length v in
    let l : Lent limit deepest a v = lent_of limit deepest a v h.unrefused in
    let size : length (wrapped_bytes a v) ≡ var_uint_size m + (m + n) = wrapped_length a v in
    let heads : length (head_bytes 14 (length (wrapped_bytes a v))) ≡ head_size (var_uint_size m + (m + n)) = head_length 14 (length (wrapped_bytes a v)) ∙ ap head_size size in
    let whole : length (wrapper_bytes a v) ≡ head_size (var_uint_size m + (m + n)) + (var_uint_size m + (m + n)) = wrapper_length a v ∙ ap (λ (x : ℕ). head_size x + x) size in
    let p : ℕ = at + wrapper_size m n in
    let k : ℕ = p + m in
    let rest = stands_rest (var_uint_bytes m) (a ++ v) (stands_rest (head_bytes 14 (length (wrapped_bytes a v))) (var_uint_bytes m ++ (a ++ v)) b) in
    let place : at + length (head_bytes 14 (length (wrapped_bytes a v))) + length (var_uint_bytes m) ≡ p = omega (arith, heads, bytes_size m) in
    let both : StandsAt s p end (a ++ v) = subst (λ (x : ℕ). StandsAt s x end (a ++ v)) place rest in
    let lower : StandsAt s p end a = stands_first a v both in
    let upper : StandsAt s k end v = stands_rest a v both in
    let there : and_then (peeked_descriptor s (k + 0) (k + n)) (inner_value s (k + 0) (k + n)) ≡ gives (moved_spans k l.inner)
    = moved_given (inner_moved limit v s k 0 n (omega arith) (omega (arith, upper.fits, upper.within)) (λ i _ q. sym (stands_at upper i q)) 0 (omega arith) (omega arith)) l.lent in
    let z : k + 0 ≡ k = omega arith in
    let t : TypedValue s k (k + n) (moved_spans k l.inner) = subst (λ (x : ℕ). TypedValue s x (k + n) (moved_spans k l.inner)) z (each_of (inner_typed s (k + 0) (k + n)) there) in
    let o : Ordered 0 n l.inner = each_of (inner_peeked_each v 0 n) l.lent in
    let d : k + l.inner.descriptor ≡ k = t.descriptor in
    let u : TypedValue s (k + l.inner.descriptor) end (moved_spans k l.inner) = subst (λ (x : ℕ). TypedValue s x end (moved_spans k l.inner)) (sym d) (typed_wide s (k + n) end upper.fits upper.within t) in
    let w : Wrapper s at end m (moved_spans k l.inner) = wrapper-back s at end a v (moved_spans k l.inner) (omega (arith, l.some)) (not_past (length (wrapped_bytes a v)) h.short) b u (omega (arith, l.ends)) (omega (arith, l.ends, whole)) in
    record {
      inner = l.inner;
      lent = l.lent;
      framed = (values-complete limit s at end (wrapper_spans at m (moved_spans k l.inner)) (annotated w.is) (w.near, w.close, omega (arith, l.few), omega (arith, o.near))).0
          ∙ ap gives (spans_are (moved_spans k l.inner) at p k m d refl);
      annotation_bytes = lower.same;
      value-bytes = upper.same;
    }
