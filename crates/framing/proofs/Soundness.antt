-- What is framed is a value or a pad of the Ion document: each reading of the slice gives its field, and each test its rule.
-- Assumes nothing.
use Prim.Native.Nat.{ℕ, ◌+◌, ◌-◌, ◌≤◌, ◌<◌}
use native.Mathlib.Omega.{arith}
use native.Mathlib.Nat.{mod-lt}
use borrow.Author.Tests.{ltb-true, ltb-false, eqb-true, eqb-false, eq-eqb, ne_eqb, not-false}
use mathlib.Core.Path.{◌≡◌, refl, ◌∙◌, sym, subst}
use mathlib.Core.Bool.{Bool, true, false, not}
use mathlib.Core.Logic.{◌⊎◌, inl, inr}
use mathlib.Core.List.{List}
use lib.ListN.{length, get_or}
use lib.Dec.{ltb, eqb}
use Rattle.numbers.specs.Outcome.{and_then, pick}
use Rattle.numbers.specs.Answers.{Unsigned, unsigned, most_bytes}
use Rattle.numbers.specs.Descriptor.{descriptor_of}
use Rattle.numbers.specs.declared.type_descriptor.TypeDescriptor.{TypeDescriptor}
use Rattle.numbers.proofs.Outcomes.{by_test, by_case, Each, given, each_refuse, each_pick, each_then, each_map, each_both, each_of}
use Rattle.numbers.proofs.Meaning.{ReadAt, var_uint_each}
use Rattle.framing.specs.Answers.{peeked_descriptor, Sized, length_at, value_code, bad_float, short_timestamp, empty_ordered, length_tests, value_length, fitting, value_without_annotations, padded, pad_at, wrapper_at, inner_value, wrapped, unwrapped, annotated_value, value_at, read_value, pad_or_none, read_pad, is_pad, is_wrapper, no_value}
use Rattle.framing.specs.Format.{type_at, code_at, CodeLength, short, long, ValueLength, none, null, coded, ordered, Legal, TypedValue, NopPadding, ValueBytes, plain, annotated}
use Rattle.framing.specs.Meaning.{Within, ValuesSound, PadsSound}
use Rattle.framing.proofs.Bounds.{peeked_each, SizedAt, length_each, plain_each, inner_peeked_each}
use Rattle.framing.proofs.WrapperTests.{WrapperMeaning, lengths_sound}
use Rattle.framing.proofs.Nibbles.{value-kind, wrapper_kind, pad_kind, PadKind}

-- a VarUInt that was read is the field of code 14
long_field : (s : List ℕ) (at end : ℕ) {u : Unsigned} → ReadAt (unsigned s at) s at end u → CodeLength s at end u.next 14 u.value
long_field s at end r = subst (λ (x : Unsigned). CodeLength s at end x.next 14 x.value) (sym r.is) (long r.number)

-- the field of a code below 15
pub code_sound : (s : List ℕ) (at end code : ℕ) → code < 15 → Each (λ l. CodeLength s at end l.body code l.size) (length_at s at end code)
unfolding length_at
code_sound s at end code h =
    each_pick (eqb code 15) (λ e. absurd (omega (arith, eqb-true code 15 e))) (λ _.
    each_pick (eqb code 14)
    (λ e.
    each_then (var_uint_each s at end) (λ u r.
    given (subst (λ (c : ℕ). CodeLength s at end u.next c u.value) (sym (eqb-true code 14 e)) (long_field s at end r))))
    (λ e. given (short (omega (arith, eqb-false code 14 e)) refl)))

-- no field, and no bytes
zero_field : {s : List ℕ} {at end b code n : ℕ} → CodeLength s at end b code n → code ≡ 0 → (b ≡ at) × (n ≡ 0)
zero_field (short h e) z = (e, z)
zero_field (long n) z = absurd (omega arith)

-- the field of a value
pub field_sound : (s : List ℕ) (at end type code : ℕ) → code < 16 → Each (λ l. ValueLength s at end l.body type code l.size) (length_at s at end (value_code type code))
unfolding value_code length_at
field_sound s at end type code h =
    by_test P (ltb type 2) (λ t. nothing (ltb-true type 2 t)) (λ t.
    let two : 2 ≤ type = ltb-false type 2 t in
    by_test P (eqb type 13)
    (λ e.
    by_test P (eqb code 1) (λ o. in_order (eqb-true type 13 e) (eqb-true code 1 o)) (λ o. by_code two (λ _ q. eqb-false code 1 o q)))
    (λ e. by_code two (λ q _. eqb-false type 13 e q)))
  where
    Q : Sized → Type 0
    Q l = ValueLength s at end l.body type code l.size

    P : ℕ → Type 0
    P c = Each Q (length_at s at end c)

    nothing : type < 2 → P 0
    nothing t =
        each_map (code_sound s at end 0 (omega arith)) (λ l f.
        let z : (l.body ≡ at) × (l.size ≡ 0) = zero_field f refl in
        subst (ValueLength s at end l.body type code) (sym z.1) (none t z.0))

    in_order : type ≡ 13 → code ≡ 1 → P 14
    in_order t c =
        each_map (code_sound s at end 14 (omega arith)) (λ l f.
        subst (λ (x : ℕ). ValueLength s at end l.body x code l.size) (sym t)
        (subst (λ (x : ℕ). ValueLength s at end l.body 13 x l.size) (sym c) (ordered f)))

    by_code : 2 ≤ type → (type ≡ 13 → code ≡ 1 → ⊥) → P code
    by_code two never =
        by_case (eqb code 15)
        (λ e.
        let q : code ≡ 15 = eqb-true code 15 e in
        subst P (sym q) (given (subst (λ (x : ℕ). ValueLength s at end at type x 0) (sym q) (null two refl))))
        (λ e. each_map (code_sound s at end code (omega (arith, eqb-false code 15 e))) (λ l f. coded two never f))

-- the rules of a length that passed its tests
float_codes : (code : ℕ) → pick (eqb code 0) false (pick (eqb code 4) false (pick (eqb code 8) false (not (eqb code 15)))) ≡ false → (code ≡ 0) ⊎ (code ≡ 4) ⊎ (code ≡ 8) ⊎ (code ≡ 15)
float_codes code =
    by_test P (eqb code 0) (λ a _. inl (eqb-true code 0 a)) (λ _.
    by_test P (eqb code 4) (λ a _. inr (inl (eqb-true code 4 a))) (λ _.
    by_test P (eqb code 8) (λ a _. inr (inr (inl (eqb-true code 8 a)))) (λ _ e.
    inr (inr (inr (eqb-true code 15 (not-false (eqb code 15) e)))))))
  where
    P : Bool → Type 0
    P b = b ≡ false → (code ≡ 0) ⊎ (code ≡ 4) ⊎ (code ≡ 8) ⊎ (code ≡ 15)

legal_float : (type code : ℕ) → bad_float type code ≡ false → type ≡ 4 → (code ≡ 0) ⊎ (code ≡ 4) ⊎ (code ≡ 8) ⊎ (code ≡ 15)
unfolding bad_float
legal_float type code h t = float_codes code (rw (eq-eqb type 4 t) at h)

legal_timestamp : (type code n : ℕ) → short_timestamp type code n ≡ false → type ≡ 6 → code < 15 → 2 ≤ n
unfolding short_timestamp
legal_timestamp type code n h t c = ltb-false n 2 (rw (eq-eqb type 6 t, ne_eqb code 15 (omega arith)) at h)

legal_ordered : (type code n : ℕ) → empty_ordered type code n ≡ false → type ≡ 13 → code ≡ 1 → 0 < n
unfolding empty_ordered
legal_ordered type code n h t c =
    let e : eqb n 0 ≡ false = rw (eq-eqb type 13 t, eq-eqb code 1 c) at h in omega (arith, eqb-false n 0 e)

-- a value's length, its field and its rules
pub record LengthMeaning (s : List ℕ) (at end type code : ℕ) (l : Sized) : Type 0 where
  pub field : ValueLength s (at + 1) end l.body type code l.size
  pub legal : Legal type code l.size
  pub sized : SizedAt (at + 1) end l

pub value_length_sound : (s : List ℕ) (at end : ℕ) (d : TypeDescriptor) → at < end → d.length_code < 16 → Each (LengthMeaning s at end d.type_code d.length_code) (value_length s at end d)
unfolding value_length length_tests
value_length_sound s at end d h k =
    each_then (each_both (field_sound s (at + 1) end d.type_code d.length_code k) (length_each s (at + 1) end _ (omega arith))) (λ l f.
    each_refuse (bad_float d.type_code d.length_code) 30 at (λ a.
    each_refuse (short_timestamp d.type_code d.length_code l.size) 31 at (λ b.
    each_refuse (empty_ordered d.type_code d.length_code l.size) 32 at (λ c.
    given
    (record {
      field = f.0;
      legal = record {
        float = legal_float d.type_code d.length_code a;
        timestamp = legal_timestamp d.type_code d.length_code l.size b;
        ordered = legal_ordered d.type_code d.length_code l.size c;
      };
      sized = f.1;
    })))))

-- the descriptor at a position
abbrev pub here : List ℕ → ℕ → TypeDescriptor
here s at = descriptor_of (get_or s at 0)

pub plain_sound : (s : List ℕ) (at end : ℕ) → at < end → end ≤ length s → Each (TypedValue s at end) (value_without_annotations s at end (here s at))
unfolding value_without_annotations fitting descriptor_of
plain_sound s at end h k =
    each_refuse (no_value (here s at).kind) 22 at (λ n.
    each_then (value_length_sound s at end (here s at) h (mod-lt (get_or s at 0) (omega arith))) (λ l t.
    each_refuse (ltb (end - l.body) l.size) 8 at (λ f.
    let e : l.size ≡ l.body + l.size - l.body = omega arith in
    given
    (record {
      type = value-kind (type_at s at) (code_at s at) n;
      field = subst (ValueLength s (at + 1) end l.body (type_at s at) (code_at s at)) e t.field;
      legal = subst (Legal (type_at s at) (code_at s at)) e t.legal;
      byte = refl;
      start = refl;
      annotations = refl;
      descriptor = refl;
      low = omega (arith, t.sized.low);
      order = omega arith;
      fits = omega (arith, t.sized.high, ltb-false (end - l.body) l.size f);
      within = k;
    }))))

pub pad_sound : (s : List ℕ) (at end : ℕ) → at < end → end ≤ length s → is_pad (here s at).kind ≡ true → Each (λ p. NopPadding s at end p × (p.body ≤ at + 1 + most_bytes)) (pad_at s at end (here s at))
unfolding pad_at padded descriptor_of
pad_sound s at end h k p =
    let q : PadKind (type_at s at) (code_at s at) = pad_kind (type_at s at) (code_at s at) p in
    let c : code_at s at < 15 = omega (arith, mod-lt (get_or s at 0) {m = 16} (omega arith), q.no_null) in
    each_then (each_both (code_sound s (at + 1) end (code_at s at) c) (length_each s (at + 1) end (code_at s at) (omega arith))) (λ l t.
    each_refuse (ltb (end - l.body) l.size) 6 l.body (λ f.
    let e : l.size ≡ l.body + l.size - l.body = omega arith in
    given (
      record {
        type = q.type_is;
        field = subst (CodeLength s (at + 1) end l.body (code_at s at)) e t.0;
        low = omega (arith, t.1.low);
        order = omega arith;
        fits = omega (arith, t.1.high, ltb-false (end - l.body) l.size f);
        within = k;
      },
      t.1.near,
    )))

-- what stands in a wrapper
inner_sound : (s : List ℕ) (at end : ℕ) → Each (TypedValue s at end) (and_then (peeked_descriptor s at end) (inner_value s at end))
unfolding inner_value
inner_sound s at end =
    each_then (peeked_each s at end) (λ d b.
    subst (λ (x : TypeDescriptor). Each (TypedValue s at end) (inner_value s at end x)) (sym b.is)
    (each_refuse (is_wrapper (here s at).kind) 27 at (λ _.
    each_refuse (is_pad (here s at).kind) 28 at (λ _. plain_sound s at end b.before b.inside))))

wrapper_sound : (limit : ℕ) (s : List ℕ) (at end : ℕ) → at < end → Each (WrapperMeaning limit s at end) (wrapper_at limit s at end (here s at))
unfolding wrapper_at length_at descriptor_of
wrapper_sound limit s at end h =
    by_case (eqb (code_at s at) 15)
    (λ e.
    rw e
    (lengths_sound limit s at end (record { body = at + 1; size = 0 }) (omega arith) (omega arith) (λ n. absurd (omega arith))))
    (λ e.
    let c : code_at s at < 15 = omega (arith, mod-lt (get_or s at 0) {m = 16} (omega arith), eqb-false (code_at s at) 15 e) in
    each_then (each_both (code_sound s (at + 1) end (code_at s at) c) (length_each s (at + 1) end (code_at s at) (omega arith))) (λ l t.
    lengths_sound limit s at end l t.1.low t.1.near (λ _. t.0)))

annotated_sound : (limit : ℕ) (s : List ℕ) (at end : ℕ) → at < end → is_wrapper (here s at).kind ≡ true → Each (λ v. (b : ValueBytes s at end v) × Within limit b) (annotated_value limit s at end (here s at))
unfolding annotated_value unwrapped wrapped descriptor_of
annotated_sound limit s at end h k =
    each_then (wrapper_sound limit s at end h) (λ w t.
    each_then (each_both (inner_sound s w.value end) (inner_peeked_each s w.value end)) (λ v io.
    let i = io.0 in
    each_refuse (not (eqb (v.end - v.descriptor) w.expected)) 29 at (λ n.
    let e : v.end - v.descriptor ≡ w.expected = eqb-true _ _ (not-false _ n) in
    let d : v.descriptor ≡ w.value = i.descriptor in
    let after : t.after < w.annotations = t.count.begins in
    given (
      annotated
          (record {
            combined = t.combined;
            after = t.after;
            type = (wrapper_kind (type_at s at) (code_at s at) k).type_is;
            field = t.field;
            low = t.low;
            count = t.count;
            size = d ∙ t.size;
            some = omega (arith, t.some);
            inner = v;
            value = subst (λ (x : ℕ). TypedValue s x end v) (sym d) i;
            all = omega (arith, t.left, t.some, i.low, i.order);
            start = refl;
            byte = refl;
            body = refl;
            ends = refl;
          }),
      (t.near, t.close, omega (arith, t.few), io.1.near),
    ))))

pub value_sound : (limit : ℕ) (s : List ℕ) (at end : ℕ) → at < end → end ≤ length s → Each (λ v. (b : ValueBytes s at end v) × Within limit b) (value_at limit s at end (here s at))
unfolding value_at
value_sound limit s at end h k =
    each_pick (is_wrapper (here s at).kind) (λ w. annotated_sound limit s at end h w)
    (λ _.
    each_map (each_both (plain_sound s at end h k) (plain_each s at end (here s at) h)) (λ v t.
    (plain t.0, subst (λ (x : ℕ). v.body ≤ x + 1 + most_bytes) t.0.descriptor t.1.near)))

pub values-sound : ValuesSound
unfolding read_value
values-sound limit s at end v e =
    each_of
    (each_then (peeked_each s at end) (λ d b.
    subst (λ (x : TypeDescriptor). Each (λ v. (y : ValueBytes s at end v) × Within limit y) (value_at limit s at end x)) (sym b.is)
    (value_sound limit s at end b.before b.inside)))
    e

pub pads-sound : PadsSound
unfolding read_pad pad_or_none
pads-sound s at end p e =
    each_of
    (each_then (peeked_each s at end) (λ d b.
    subst (λ (x : TypeDescriptor). Each (λ q. NopPadding s at end q × (q.body ≤ at + 1 + most_bytes)) (pad_or_none s at end x)) (sym b.is)
    (each_refuse (not (is_pad (here s at).kind)) 22 at (λ n.
    pad_sound s at end b.before b.inside (not-false (is_pad (here s at).kind) n)))))
    e
