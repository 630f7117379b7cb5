-- A value without a wrapper whose length field has three bytes at most: what is said of it is what is framed, and nothing is said where no such value is read.
-- Assumes nothing.
use Prim.Native.Nat.{ℕ, ◌+◌, ◌-◌, ◌≤◌, ◌<◌}
use native.Mathlib.Omega.{arith}
use borrow.Author.Tests.{le-ltb, lt-leb, eqb-true, ltb-false, leb-true, not-true, not-false}
use mathlib.Core.Path.{◌≡◌, refl, ◌∙◌, sym, subst}
use mathlib.Core.Bool.{true, false, true≢false}
use mathlib.Core.List.{List}
use lib.ListN.{length, get_or}
use lib.Dec.{ltb, leb, eqb}
use Rattle.numbers.specs.Outcome.{Outcome, gives, refuses, and_then}
use Rattle.numbers.specs.Answers.{Unsigned, var_uint}
use Rattle.numbers.specs.ShortVarUInt.{short_bytes}
use Rattle.numbers.specs.Descriptor.{kind_of, descriptor_of}
use Rattle.numbers.proofs.Outcomes.{by_test, by_case, Each, given, refused, each_refuse, each_then, each_map}
use Rattle.framing.specs.Answers.{no_value, is_wrapper, sized_by, length_at, value_code, bad_float, short_timestamp, empty_ordered, length_tests, value_length, fitting, value_without_annotations, annotated_value, value_at, valued, read_value, read_frame}
use Rattle.framing.specs.Spans.{Spans}
use Rattle.framing.specs.Format.{type_at, code_at, ValueType, typed, null_null, TypedValue, ValueBytes, plain, annotated}
use Rattle.framing.specs.Private.InlineLengths.{inline_length, has_inline_length, has_length_field, too_short}
use Rattle.framing.specs.ShortValue.{short_value, no_short_value, begins_value, short_value_of}
use Rattle.framing.proofs.Bounds.{peeked_each, length_each, tests_each}
use Rattle.framing.proofs.Nibbles.{is_value, value-kind, wrapper_kind}
use Rattle.framing.proofs.Soundness.{here, plain_sound, value_sound, values-sound}
use Rattle.framing.proofs.Completeness.{peeked_here, values-complete}
use Rattle.framing.proofs.InlineLengths.{inline_means, inline_read, sized}

-- ---- what is said of a reading

-- what is said is what the reading gives: its descriptor is at `at`, and its body begins near it
record Said (at : ℕ) (o : Outcome Spans) (v : Spans) : Type 0 where
  pub gave : o ≡ gives v
  pub descriptor : v.descriptor ≡ at
  pub near : v.body ≤ at + 1 + short_bytes

said : (at : ℕ) (o : Outcome Spans) {v : Spans} → short_value_of at o ≡ short_value v → Said at o v
said at (gives w) {v} =
    by_test (λ x. x ≡ short_value v → Said at (gives w) v) (eqb w.descriptor at)
    (λ d.
    by_test (λ x. x ≡ short_value v → Said at (gives w) v) (leb w.body (at + 1 + short_bytes))
    (λ n e.
    let q : w ≡ v = cc in
    subst (Said at (gives w)) q (record { gave = refl; descriptor = eqb-true w.descriptor at d; near = leb-true w.body (at + 1 + short_bytes) n }))
    (λ _ e. absurd (let z : ◌≡◌ {A = ℕ} 0 1 = cc in omega arith)))
    (λ _ e. absurd (let z : ◌≡◌ {A = ℕ} 0 1 = cc in omega arith))
said at (refuses n p) = λ e. absurd (let z : ◌≡◌ {A = ℕ} 0 1 = cc in omega arith)

-- nothing is said where whatever is given has a wrapper or a long length field
pub none_said : (at : ℕ) {o : Outcome Spans} → Each (λ v. v.descriptor ≡ at → at + 1 + short_bytes < v.body) o → short_value_of at o ≡ no_short_value
none_said at (given {a = v} h) =
    by_case (eqb v.descriptor at) (λ e. rw (e, lt-leb v.body (at + 1 + short_bytes) (h (eqb-true v.descriptor at e)))) (λ e. rw e)
none_said at refused = refl

pub never_said : (at : ℕ) {o : Outcome Spans} → Each (λ _. ⊥) o → short_value_of at o ≡ no_short_value
never_said at e = none_said at (each_map e (λ v f. absurd f))

-- ---- a value that is said

low_type : {type code : ℕ} → ValueType type code → type ≤ 13
low_type (typed a b) = b
low_type null_null = omega arith

-- it has no wrapper
bare : {s : List ℕ} {at end : ℕ} {v : Spans} → ValueBytes s at end v → v.descriptor ≡ at → TypedValue s at end v
bare (plain t) d = t
bare (annotated w) d = absurd (omega (arith, w.low, w.count.begins, w.some))

-- where its places are, and its byte
pub record ShortBounds (s : List ℕ) (at end : ℕ) (v : Spans) : Type 0 where
  pub before : at < end
  pub inside : end ≤ length s
  pub start : v.start ≡ at
  pub annotations : v.annotations ≡ at
  pub descriptor : v.descriptor ≡ at
  pub bodied : at < v.body
  pub near : v.body ≤ at + 1 + short_bytes
  pub ended : v.body ≤ v.end
  pub within : v.end ≤ end
  pub byte : v.byte ≡ get_or s at 0
  pub low : get_or s at 0 < 224

module _ (limit : ℕ) (s : List ℕ) (at end : ℕ) {v : Spans} (e : short_value_of at (read_value limit s at end) ≡ short_value v) where
  short_typed : TypedValue s at end v
  short_typed =
      let r = said at (read_value limit s at end) e in
      bare (values-sound limit s at end v r.gave).0 r.descriptor

  pub short_framed : read_frame limit s at end ≡ gives (valued v)
  short_framed = (values-complete limit s at end v (plain short_typed) (omega (arith, (said at (read_value limit s at end) e).near))).1

  pub short_bounds : ShortBounds s at end v
  short_bounds =
      let t = short_typed in
      record {
        before = omega (arith, t.low, t.order, t.fits);
        inside = t.within;
        start = t.start;
        annotations = t.annotations;
        descriptor = t.descriptor;
        bodied = t.low;
        near = (said at (read_value limit s at end) e).near;
        ended = t.order;
        within = t.fits;
        byte = t.byte;
        low = omega (arith, low_type t.type);
      }

-- ---- what is read at a position

-- nothing where the part has no byte, or is outside the slice
pub none_left : (limit : ℕ) (s : List ℕ) (at end : ℕ) → (at < end → end ≤ length s → ⊥) → short_value_of at (read_value limit s at end) ≡ no_short_value
unfolding read_value
none_left limit s at end h =
    never_said at (each_then (peeked_each s at end) (λ d b. absurd (h b.before b.inside)))

module _ (limit : ℕ) (s : List ℕ) (at end : ℕ) (l : at < end) (m : end ≤ length s) where
  -- a value with a wrapper has its descriptor further on
  wrapped_on : is_wrapper (here s at).kind ≡ true → Each (λ v. v.descriptor ≡ at → at + 1 + short_bytes < v.body) (annotated_value limit s at end (here s at))
  unfolding value_at descriptor_of
  wrapped_on w =
      each_map (rw w at (value_sound limit s at end l m)) (λ v b d.
      absurd (omega (arith, (wrapper_kind (type_at s at) (code_at s at) w).type_is, low_type (bare b.0 d).type)))

  unwrapped_none : is_wrapper (here s at).kind ≡ true → Each (λ _. ⊥) (value_without_annotations s at end (here s at))
  unfolding descriptor_of
  unwrapped_none w =
      each_map (plain_sound s at end l m) (λ v t. omega (arith, (wrapper_kind (type_at s at) (code_at s at) w).type_is, low_type t.type))

  -- so that only a value without one is said
  pub plain_said : short_value_of at (read_value limit s at end) ≡ short_value_of at (value_without_annotations s at end (here s at))
  unfolding read_value value_at
  plain_said =
      rw (peeked_here s at end l m)
      (by_case (is_wrapper (here s at).kind) (λ w. rw w (none_said at (wrapped_on w) ∙ sym (never_said at (unwrapped_none w)))) (λ w. rw w))

-- ---- a value without a wrapper, by what its descriptor tells

-- a VarUInt says the length
record LengthField (type code : ℕ) : Type 0 where
  pub code_is : eqb (value_code type code) 14 ≡ true
  pub value : no_value (kind_of type code) ≡ false
  pub float : bad_float type code ≡ false

-- null and bool have no VarUInt
two_types : (type code : ℕ) → eqb (value_code type code) 14 ≡ true → 2 ≤ type
unfolding value_code
two_types type code =
    by_test (λ n. eqb n 14 ≡ true → 2 ≤ type) (ltb type 2) (λ _ e. absurd (true≢false (sym e))) (λ h _. ltb-false type 2 h)

length_field_means : (type code : ℕ) → has_length_field type code ≡ true → LengthField type code
unfolding has_length_field
length_field_means type code =
    by_test (λ b. b ≡ true → LengthField type code) (eqb (value_code type code) 14)
    (λ n.
    by_test (λ b. b ≡ true → LengthField type code) (ltb 13 type) (λ _ e. absurd (true≢false (sym e))) (λ h e.
    record { code_is = n; value = (is_value (typed (omega (arith, two_types type code n)) (ltb-false 13 type h))).value; float = not-true _ e }))
    (λ _ e. absurd (true≢false (sym e)))

module _ (s : List ℕ) (at end : ℕ) (l : at < end) where
  -- a byte that begins none
  pub unbegun_plain : begins_value (get_or s at 0) ≡ false → Each (λ _. ⊥) (value_without_annotations s at end (here s at))
  unfolding value_without_annotations begins_value descriptor_of
  unbegun_plain h =
      each_refuse (no_value (kind_of (type_at s at) (code_at s at))) 22 at (λ v. absurd (true≢false (sym (not-false _ h) ∙ v)))

  pub inline_plain : has_inline_length (type_at s at) (code_at s at) ≡ true → value_without_annotations s at end (here s at) ≡ fitting at end (get_or s at 0) (record { body = at + 1; size = inline_length (type_at s at) (code_at s at) })
  unfolding value_without_annotations descriptor_of
  inline_plain h = rw ((inline_means _ _ h).value, inline_read s at end (here s at) h)

  -- neither the descriptor nor a VarUInt says a length that passes its tests
  no_inline_length : no_value (kind_of (type_at s at) (code_at s at)) ≡ false → has_inline_length (type_at s at) (code_at s at) ≡ false → has_length_field (type_at s at) (code_at s at) ≡ false → Each (λ _. ⊥) (value_length s at end (here s at))
  unfolding value_length length_tests has_inline_length has_length_field descriptor_of
  no_inline_length v t r =
      let type = type_at s at in
      let code = code_at s at in
      by_case (eqb (value_code type code) 14)
      (λ n.
      each_then (length_each s (at + 1) end (value_code type code) (omega arith)) (λ z _.
      each_refuse (bad_float type code) 30 at (λ f.
      absurd (true≢false (rw (n, le-ltb 13 type (low_type (value-kind type code v)), f) at r)))))
      (λ n.
      rw (sized s (at + 1) end type code n)
      (each_refuse (bad_float type code) 30 at (λ f.
      each_refuse (short_timestamp type code (inline_length type code)) 31 at (λ k.
      absurd (true≢false (rw (le-ltb 15 code (omega arith), v, n, f, k) at t))))))

  pub no_inline_plain : has_inline_length (type_at s at) (code_at s at) ≡ false → has_length_field (type_at s at) (code_at s at) ≡ false → Each (λ _. ⊥) (value_without_annotations s at end (here s at))
  unfolding value_without_annotations descriptor_of
  no_inline_plain t r =
      each_refuse (no_value (kind_of (type_at s at) (code_at s at))) 22 at (λ v. each_then (no_inline_length v t r) (λ z f. absurd f))

  -- a VarUInt says the length, which then is tested
  read_length : has_length_field (type_at s at) (code_at s at) ≡ true → value_length s at end (here s at) ≡ and_then (and_then (var_uint s (at + 1) end) sized_by) (length_tests at (type_at s at) (code_at s at))
  unfolding value_length length_at descriptor_of
  read_length r = rw (eqb-true (value_code (type_at s at) (code_at s at)) 14 (length_field_means _ _ r).code_is)

  -- nothing is near where the VarUInt is long
  pub long_plain : has_length_field (type_at s at) (code_at s at) ≡ true → Each (λ u. at + 1 + short_bytes < u.next) (var_uint s (at + 1) end) → Each (λ v. at + 1 + short_bytes < v.body) (value_without_annotations s at end (here s at))
  unfolding value_without_annotations fitting
  long_plain r u =
      each_refuse (no_value (here s at).kind) 22 at (λ _.
      rw (read_length r)
      (each_then (each_then {Q = λ z. at + 1 + short_bytes < z.body} (each_then {Q = λ z. at + 1 + short_bytes < z.body} u (λ x h. given h)) (λ z h. tests_each at (type_at s at) (code_at s at) z h)) (λ z h.
      each_refuse (ltb (end - z.body) z.size) 8 at (λ _. given h))))

  module _ (u : Unsigned) (r : has_length_field (type_at s at) (code_at s at) ≡ true) (e : var_uint s (at + 1) end ≡ gives u) where
    pub few_plain : too_short (type_at s at) (code_at s at) u.value ≡ true → Each (λ _. ⊥) (value_without_annotations s at end (here s at))
    unfolding value_without_annotations length_tests too_short
    few_plain h =
        let type = type_at s at in
        let code = code_at s at in
        each_refuse (no_value (here s at).kind) 22 at (λ _.
        rw (read_length r, e)
        (each_then {P = λ _. ⊥}
        (each_refuse (bad_float type code) 30 at (λ _.
        each_refuse (short_timestamp type code u.value) 31 at (λ t.
        each_refuse (empty_ordered type code u.value) 32 at (λ o. absurd (true≢false (sym (rw (t, o) at h)))))))
        (λ z f. absurd f)))

    pub read_plain : too_short (type_at s at) (code_at s at) u.value ≡ false → value_without_annotations s at end (here s at) ≡ fitting at end (get_or s at 0) (record { body = u.next; size = u.value })
    unfolding value_without_annotations length_tests too_short descriptor_of
    read_plain =
        by_test (λ b. b ≡ false → value_without_annotations s at end (here s at) ≡ fitting at end (get_or s at 0) (record { body = u.next; size = u.value })) (short_timestamp (type_at s at) (code_at s at) u.value) (λ _ f. absurd (true≢false f)) (λ t o.
        let m = length_field_means _ _ r in
        rw (m.value, read_length r, e, m.float, t, o))
