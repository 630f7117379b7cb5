-- A value or a pad of the Ion document that fits the part and the limits is framed: each reading gives its field, and each test passes.
-- Assumes nothing.
use Prim.Native.Nat.{ℕ, ◌+◌, ◌-◌, ◌≤◌, ◌<◌}
use native.Mathlib.Omega.{arith}
use native.Mathlib.Nat.{mod-lt}
use borrow.Author.Tests.{eqb-true, eqb-false, le-ltb, lt-ltb, eq-eqb, ne_eqb}
use mathlib.Core.Path.{◌≡◌, refl, ◌∙◌, sym, ap}
use mathlib.Core.Bool.{true, false}
use mathlib.Core.Logic.{⊎_elim}
use mathlib.Core.List.{List}
use lib.ListN.{length, get_or}
use lib.Dec.{ltb, eqb}
use Rattle.numbers.specs.Outcome.{gives, and_then}
use Rattle.numbers.specs.Bytes.{part}
use Rattle.numbers.specs.Format.{var_uint_of}
use Rattle.numbers.specs.Answers.{most_bytes}
use Rattle.numbers.specs.Descriptor.{descriptor_of, kind_of}
use Rattle.numbers.proofs.Outcomes.{by_test, within_part}
use Rattle.numbers.proofs.Meaning.{var-uint-complete}
use Rattle.framing.specs.Answers.{peeked_descriptor, length_at, value_code, bad_float, short_timestamp, empty_ordered, length_tests, value_length, fitting, value_without_annotations, padded, pad_at, Wrapping, wrapper_tests, annotations_at, wrapper_at, inner_value, wrapped, unwrapped, annotated_value, value_at, read_value, pad_or_none, read_pad, frame_at, read_frame, is_pad}
use Rattle.framing.specs.Spans.{Spans}
use Rattle.framing.specs.Format.{type_at, code_at, CodeLength, short, long, ValueLength, none, null, coded, ordered, Legal, TypedValue, AnnotationWrapper, ValueBytes, plain, annotated}
use Rattle.framing.specs.Meaning.{Within, ValuesComplete, PadsComplete}
use Rattle.framing.proofs.Nibbles.{IsValue, is_value, IsWrapper, is-wrapper, is-pad}
use Rattle.framing.proofs.Soundness.{here}

code_complete : (s : List ℕ) (at end b code n : ℕ) → CodeLength s at end b code n → b ≤ at + most_bytes → length_at s at end code ≡ gives (record { body = b; size = n })
unfolding length_at
code_complete s at end b code n (short h e) _ = rw (ne_eqb code 15 (omega arith), ne_eqb code 14 (omega arith), e)
code_complete s at end b code n (long f) l = rw (var-uint-complete s at end b f l)

-- a code that is read as it stands
same_code : (type code : ℕ) → 2 ≤ type → (type ≡ 13 → code ≡ 1 → ⊥) → value_code type code ≡ code
unfolding value_code
same_code type code two never =
    rw (le-ltb type 2 two)
    (by_test (λ c. c ≡ code) (eqb type 13)
    (λ t. by_test (λ c. c ≡ code) (eqb code 1) (λ o. absurd (never (eqb-true type 13 t) (eqb-true code 1 o))) (λ _. refl))
    (λ _. refl))

field_complete : (s : List ℕ) (at end b type code n : ℕ) → ValueLength s at end b type code n → b ≤ at + most_bytes → length_at s at end (value_code type code) ≡ gives (record { body = b; size = n })
unfolding length_at value_code
field_complete s at end b type code n (none h e) _ = rw (lt-ltb type 2 h, e)
field_complete s at end b type code n (null two e) _ = rw (same_code type 15 two (λ _ q. absurd (omega arith)), e)
field_complete s at end b type code n (coded two never f) l = rw (same_code type code two never) (code_complete s at end b code n f l)
field_complete s at end b type code n (ordered f) l = code_complete s at end b 14 n f l

module _ (type code n : ℕ) (l : Legal type code n) where
  float_passes : bad_float type code ≡ false
  unfolding bad_float
  float_passes =
      by_test (λ b. b ≡ false) (eqb type 4)
      (λ t.
      ⊎_elim (λ (e : code ≡ 0). rw e)
      (⊎_elim (λ (e : code ≡ 4). rw e) (⊎_elim (λ (e : code ≡ 8). rw e) (λ (e : code ≡ 15). rw e)))
      (l.float (eqb-true type 4 t)))
      (λ _. refl)

  timestamp_passes : code < 16 → short_timestamp type code n ≡ false
  unfolding short_timestamp
  timestamp_passes c =
      by_test (λ b. b ≡ false) (eqb type 6)
      (λ t.
      by_test (λ b. b ≡ false) (eqb code 15) (λ _. refl) (λ e.
      le-ltb n 2 (l.timestamp (eqb-true type 6 t) (omega (arith, eqb-false code 15 e)))))
      (λ _. refl)

  ordered_passes : empty_ordered type code n ≡ false
  unfolding empty_ordered
  ordered_passes =
      by_test (λ b. b ≡ false) (eqb type 13)
      (λ t.
      by_test (λ b. b ≡ false) (eqb code 1) (λ o. ne_eqb n 0 (λ z. absurd (omega (arith, l.ordered (eqb-true type 13 t) (eqb-true code 1 o))))) (λ _. refl))
      (λ _. refl)

-- a record is its fields
spans_are : (v : Spans) (a b c d e f : ℕ) → v.byte ≡ a → v.start ≡ b → v.annotations ≡ c → v.descriptor ≡ d → v.body ≡ e → v.end ≡ f → record { byte = a; start = b; annotations = c; descriptor = d; body = e; end = f } ≡ v
spans_are v a b c d e f p q r x y z = rw (← p, ← q, ← r, ← x, ← y, ← z)

pub peeked_here : (s : List ℕ) (at end : ℕ) → at < end → end ≤ length s → peeked_descriptor s at end ≡ gives (here s at)
unfolding peeked_descriptor
peeked_here s at end h k = within_part s at end (omega arith) k ∙ rw (ne_eqb at end (omega arith))

plain_complete : (s : List ℕ) (at end : ℕ) (v : Spans) → TypedValue s at end v → v.body ≤ at + 1 + most_bytes → value_without_annotations s at end (here s at) ≡ gives v
unfolding value_without_annotations value_length length_tests fitting descriptor_of
plain_complete s at end v t l =
    let n : ℕ = v.end - v.body in
    rw
    ((is_value t.type).value, field_complete s (at + 1) end v.body (type_at s at) (code_at s at) n t.field l, float_passes (type_at s at) (code_at s at) n t.legal, timestamp_passes (type_at s at) (code_at s at) n t.legal (mod-lt (get_or s at 0) (omega arith)), ordered_passes (type_at s at) (code_at s at) n t.legal, le-ltb (end - v.body) n (omega (arith, t.fits, t.order)))
    (ap gives (spans_are v _ _ _ _ _ _ t.byte t.start t.annotations t.descriptor refl (omega (arith, t.order))))

wrapping_are : (a b c b' c' : ℕ) → b ≡ b' → c ≡ c' → ◌≡◌ {A = Wrapping} (record { annotations = a; value = b; expected = c }) (record { annotations = a; value = b'; expected = c' })
wrapping_are a b c b' c' p q = rw (p, q)

wrapper_complete : (limit : ℕ) (s : List ℕ) (at end : ℕ) (v : Spans) (w : AnnotationWrapper s at end v) → Within limit (annotated w) → wrapper_at limit s at end (here s at) ≡ gives (record { annotations = v.annotations; value = v.descriptor; expected = v.end - v.descriptor })
unfolding wrapper_at annotations_at wrapper_tests descriptor_of
wrapper_complete limit s at end v w l =
    let n : ℕ = var_uint_of (part s w.after v.annotations) in
    let d : v.descriptor ≡ v.annotations + n = w.size in
    let some : v.annotations < v.descriptor = w.some in
    let begins : w.after < v.annotations = w.count.begins in
    let low : v.descriptor < v.end = omega (arith, w.value.low, w.value.order, w.ends) in
    let fits : v.end ≤ end = omega (arith, w.value.fits, w.ends) in
    let all : w.combined ≡ v.end - w.after = w.all in
    rw
    (code_complete s (at + 1) end w.after (code_at s at) w.combined w.field l.0, var-uint-complete s w.after end v.annotations w.count l.1, ne_eqb n 0 (omega arith), le-ltb w.combined (v.annotations - w.after + n) (omega arith), ne_eqb w.combined (v.annotations - w.after + n) (omega arith), le-ltb limit n (omega (arith, l.2)), le-ltb (end - v.annotations) n (omega arith))
    (ap gives (wrapping_are v.annotations _ _ _ _ (sym d) (omega arith)))

inner_complete : (s : List ℕ) (at end : ℕ) (v : Spans) → TypedValue s at end v → v.body ≤ at + 1 + most_bytes → and_then (peeked_descriptor s at end) (inner_value s at end) ≡ gives v
unfolding inner_value descriptor_of
inner_complete s at end v t l =
    let k : IsValue (kind_of (type_at s at) (code_at s at)) = is_value t.type in
    rw (peeked_here s at end (omega (arith, t.low, t.order, t.fits)) t.within, k.wrapper, k.pad) (plain_complete s at end v t l)

annotated_complete : (limit : ℕ) (s : List ℕ) (at end : ℕ) (v : Spans) (w : AnnotationWrapper s at end v) → Within limit (annotated w) → annotated_value limit s at end (here s at) ≡ gives v
unfolding annotated_value unwrapped wrapped
annotated_complete limit s at end v w l =
    let i : Spans = w.inner in
    let e : i.end - i.descriptor ≡ v.end - v.descriptor = omega (arith, w.ends, w.value.descriptor) in
    rw
    (wrapper_complete limit s at end v w l, inner_complete s v.descriptor end i w.value (omega (arith, l.3, w.body)), eq-eqb _ _ e)
    (ap gives (spans_are v _ _ _ _ _ _ w.byte w.start refl (sym w.value.descriptor) w.body w.ends))

-- a wrapper's code is not 0: it tells a length, and a value follows
some_code : {s : List ℕ} {at end b code n : ℕ} → CodeLength s at end b code n → 0 < n → 0 < code
some_code (short h e) m = m
some_code (long f) m = omega arith

value_complete : (limit : ℕ) (s : List ℕ) (at end : ℕ) (v : Spans) (b : ValueBytes s at end v) → Within limit b → (value_at limit s at end (here s at) ≡ gives v) × (is_pad (here s at).kind ≡ false) × (at < end) × (end ≤ length s)
unfolding value_at descriptor_of
value_complete limit s at end v (plain t) l =
    let k : IsValue (kind_of (type_at s at) (code_at s at)) = is_value t.type in
    (rw k.wrapper (plain_complete s at end v t l), k.pad, omega (arith, t.low, t.order, t.fits), t.within)
value_complete limit s at end v (annotated w) l =
    let c : 0 < code_at s at = some_code w.field (omega (arith, w.all, w.count.begins, w.some, w.value.low, w.value.order, w.ends)) in
    let k : IsWrapper (kind_of (type_at s at) (code_at s at)) = is-wrapper (type_at s at) (code_at s at) w.type c in
    (rw k.wrapper (annotated_complete limit s at end v w l), k.pad, omega (arith, w.low, w.count.begins, w.count.ends), w.value.within)

pub values-complete : ValuesComplete
unfolding read_value read_frame frame_at
values-complete limit s at end v b l =
    let r = value_complete limit s at end v b l in
    let e : peeked_descriptor s at end ≡ gives (here s at) = peeked_here s at end r.2 r.3 in
    (rw e r.0, rw (e, r.1, r.0))

pub pads-complete : PadsComplete
unfolding read_pad pad_or_none read_frame frame_at pad_at padded descriptor_of
pads-complete limit s at end p n l =
    let size : ℕ = p.end - p.body in
    let e : peeked_descriptor s at end ≡ gives (here s at) = peeked_here s at end (omega (arith, n.low, n.order, n.fits)) n.within in
    let k : is_pad (kind_of (type_at s at) (code_at s at)) ≡ true = is-pad (type_at s at) (code_at s at) n.type (below n.field) in
    let f = code_complete s (at + 1) end p.body (code_at s at) size n.field l in
    let g : ltb (end - p.body) size ≡ false = le-ltb (end - p.body) size (omega (arith, n.fits, n.order)) in
    let h : p.body + size ≡ p.end = omega (arith, n.order) in
    (rw (e, k, f, g, h), rw (e, k, f, g, h))
  where
    below : {b code m : ℕ} → CodeLength s (at + 1) end b code m → code < 15
    below (short h e) = omega arith
    below (long f) = omega arith
