-- What a value's descriptor and length can be once it is packed, of a value of the document: its header is no longer than it was.
-- Assumes nothing.
use Prim.Native.Nat.{ℕ, ◌+◌, ◌-◌, ◌*◌, ◌/◌, ◌%◌, ◌^◌, ◌≤◌, ◌<◌}
use native.Mathlib.Omega.{arith}
use mathlib.Core.Path.{◌≡◌, refl, ◌∙◌, sym, ap, subst}
use mathlib.Core.Bool.{true, false}
use mathlib.Core.Logic.{inl, inr, ⊎_elim}
use mathlib.Core.List.{List}
use lib.Dec.{eqb}
use borrow.Author.Tests.{eqb-true, eqb-false, le-ltb, ne_eqb}
use Rattle.numbers.specs.Bytes.{part}
use Rattle.numbers.specs.Answers.{unsigned}
use Rattle.numbers.proofs.Outcomes.{by_case}
use Rattle.numbers.proofs.Meaning.{var-uint-complete, var_uint_small}
use Rattle.framing.specs.Spans.{Spans}
use Rattle.framing.specs.Format.{type_at, code_at, CodeLength, short, long, ValueLength, none, null, coded, ordered, ValueType, typed, null_null, Legal, TypedValue}
use Rattle.values.specs.Scalars.{is_container}
use Rattle.encoding.specs.Fields.{var_uint_size}
use Rattle.encoding.specs.Meaning.{Writable}
use Rattle.encoding.proofs.VarUInts.{var_uint_grows, var-uint-shortest}
use Rattle.encoding.proofs.Heads.{head-shortest, head_grows, head_short}
use Rattle.numbers.proofs.Parts.{part_length}
use Rattle.packing.specs.Tree.{lengthless, ordered_byte, kept_byte}
use Rattle.packing.specs.Private.Sizes.{header_size}
use Rattle.packing.proofs.Sizes.{low_lengthless, null_lengthless, has_length, bare_size, bare_kept, ordered_size, ordered_kept, ordered_emptied, coded_size, coded_kept}

-- a kept descriptor and how long a body it may have: a null or a bool; an ordered struct with something in it; a type with a length
pub data Shape (byte n : ℕ) : Type 0 where
  bare : lengthless byte ≡ true → ValueType (byte / 16) (byte % 16) → n ≡ 0 → Shape byte n
  in_order : byte ≡ ordered_byte → 0 < n → n < 2 ^ 63 → Shape byte n
  lengthed : (type : ℕ) → byte ≡ type * 16 → Writable type n → Shape byte n

-- a length that a field of nine bytes at most tells
pub length_small : {s : List ℕ} {at end b code n : ℕ} → CodeLength s at end b code n → b ≤ at + 9 → n < 2 ^ 63
length_small (short h e) l = omega arith
length_small {s} {at} {end} {b} (long f) l = var_uint_small s at end (unsigned s at b) (var-uint-complete s at end b f l)

code_low : {s : List ℕ} {at end b code n : ℕ} → CodeLength s at end b code n → code ≤ 14
code_low (short h e) = omega arith
code_low (long f) = omega arith

code_is : {s : List ℕ} {at end b code n : ℕ} → CodeLength s at end b code n → code < 14 → n ≡ code
code_is (short h e) l = refl
code_is (long f) l = absurd (omega arith)

-- behind a code of 14 the number itself is no shorter
long_shortest : {s : List ℕ} {at end b code n : ℕ} → code ≡ 14 → CodeLength s at end b code n → var_uint_size n ≤ b - at
long_shortest e (short h d) = absurd (omega arith)
long_shortest {s} {at} {end} {b} e (long f) =
    omega (arith, var-uint-shortest (part s at b) f.bytes, part_length s at b (omega (arith, f.ends, f.within)))

type_high : {type code : ℕ} → ValueType type code → type ≤ 13
type_high (typed l m) = m
type_high null_null = omega arith

-- what a header becomes where its body has n bytes: its shape, and a size that is no larger
pub record Reshaped (byte n room : ℕ) : Type 0 where
  pub shape : Shape (kept_byte byte n) n
  pub size : header_size (kept_byte byte n) n ≤ room

bare_reshaped : (byte n room : ℕ) → lengthless byte ≡ true → ValueType (byte / 16) (byte % 16) → n ≡ 0 → 1 ≤ room → Reshaped byte n room
bare_reshaped byte n room e t z h =
    let k : kept_byte byte n ≡ byte = bare_kept byte n e in
    record {
      shape = subst (λ (x : ℕ). Shape x n) (sym k) (bare e t z);
      size = omega (arith, ap (λ (x : ℕ). header_size x n) k, bare_size byte n e);
    }

writable_of : {s : List ℕ} {at end b : ℕ} (type code n n₀ : ℕ) → 2 ≤ type → type ≤ 13 → CodeLength s at end b code n₀ → Legal type code n₀ → b ≤ at + 9 → n ≤ n₀ → (type ≤ 10 → n ≡ n₀) → (type ≡ 13 → n ≡ 1 → ⊥) → Writable type n
writable_of type code n n₀ two high f l near h same one =
    record {
      low = two;
      high = high;
      float = λ t.
          let e : n ≡ n₀ = same (omega arith) in
          ⊎_elim (λ (c : code ≡ 0). inl (e ∙ code_is f (omega arith) ∙ c))
          (⊎_elim (λ (c : code ≡ 4). inr (inl (e ∙ code_is f (omega arith) ∙ c)))
          (⊎_elim (λ (c : code ≡ 8). inr (inr (e ∙ code_is f (omega arith) ∙ c))) (λ (c : code ≡ 15). absurd (omega (arith, code_low f)))))
          (l.float t);
      timestamp = λ t. omega (arith, same (omega arith), l.timestamp t (omega (arith, code_low f)));
      struct = one;
      small = omega (arith, length_small f near);
    }

field_reshaped : {s : List ℕ} {at end b type code n₀ : ℕ} → ValueLength s at end b type code n₀ → ValueType type code → Legal type code n₀ → at ≤ b → b ≤ at + 9 → (byte n : ℕ) → byte / 16 ≡ type → byte % 16 ≡ code → n ≤ n₀ → (type ≤ 10 → n ≡ n₀) → (type ≡ 13 → code ≤ 14 → n ≡ 1 → ⊥) → Reshaped byte n (1 + (b - at))
field_reshaped {type = type} {code = code} (none h e) t l order near byte n p q m same one =
    bare_reshaped byte n _ (low_lengthless byte (omega arith)) (rw (p, q) t) (omega arith) (omega arith)
field_reshaped {type = type} (null two e) t l order near byte n p q m same one =
    bare_reshaped byte n _ (null_lengthless byte q) (rw (p, q) t) (omega arith) (omega arith)
field_reshaped {s} {at} {end} {b} {type} {code} {n₀} (coded two never f) t l order near byte n p q m same one =
    let low : code ≤ 14 = code_low f in
    let e : lengthless byte ≡ false = has_length byte (omega arith) (λ x. absurd (omega arith)) in
    let o : byte ≡ ordered_byte → ⊥ = λ x. never (omega arith) (omega arith) in
    let k : kept_byte byte n ≡ type * 16 = coded_kept byte n e o ∙ ap (λ (x : ℕ). x * 16) p in
    let high : type ≤ 13 = type_high t in
    let e' : lengthless (type * 16) ≡ false = has_length (type * 16) (omega arith) (λ x. absurd (omega arith)) in
    let o' : type * 16 ≡ ordered_byte → ⊥ = λ x. absurd (omega arith) in
    record {
      shape = subst (λ (x : ℕ). Shape x n) (sym k) (lengthed type refl (writable_of type code n n₀ two high f l near m same (λ t. one t low)));
      size = omega (arith, ap (λ (x : ℕ). header_size x n) k, coded_size (type * 16) n e' o', head_grows n n₀ m, head-shortest s at end b code n₀ f);
    }
field_reshaped {s} {at} {end} {b} {type} {code} {n₀} (ordered f) t l order near byte n p q m same one =
    let is : byte ≡ ordered_byte = omega arith in
    by_case (eqb n 0)
    (λ z.
    let z' : n ≡ 0 = eqb-true n 0 z in
    let k : kept_byte byte n ≡ 13 * 16 = ap (λ (x : ℕ). kept_byte x n) is ∙ ap (kept_byte ordered_byte) z' ∙ ordered_emptied in
    let e' : lengthless (13 * 16) ≡ false = has_length (13 * 16) (omega arith) (λ x. absurd (omega arith)) in
    let o' : 13 * 16 ≡ ordered_byte → ⊥ = λ x. absurd (omega arith) in
    record {
      shape = subst (λ (x : ℕ). Shape x n) (sym k) (lengthed 13 refl (emptied n z'));
      size = omega (arith, ap (λ (x : ℕ). header_size x n) k, coded_size (13 * 16) n e' o', head_short n (omega arith));
    })
    (λ z.
    let some : 0 < n = omega (arith, eqb-false n 0 z) in
    let k : kept_byte byte n ≡ ordered_byte = ap (λ (x : ℕ). kept_byte x n) is ∙ ordered_kept n some in
    record {
      shape = subst (λ (x : ℕ). Shape x n) (sym k) (in_order refl some (omega (arith, length_small f near)));
      size = omega (arith, ap (λ (x : ℕ). header_size x n) k, ordered_size n, var_uint_grows n n₀ m, long_shortest refl f);
    })
  where
    emptied : (n : ℕ) → n ≡ 0 → Writable 13 n
    emptied n z =
        record {
          low = omega arith;
          high = omega arith;
          float = λ t. absurd (omega arith);
          timestamp = λ t. absurd (omega arith);
          struct = λ _ o. absurd (omega arith);
          small = omega arith;
        }

-- of a value: a scalar's body stays as long as it is
pub reshaped : {s : List ℕ} {at hi : ℕ} {v : Spans} → TypedValue s at hi v → v.body ≤ at + 1 + 9 → (n : ℕ) → n ≤ v.end - v.body → (is_container v ≡ false → n ≡ v.end - v.body) → (is_container v ≡ true → v.byte / 16 ≡ 13 → n ≡ 1 → ⊥) → Reshaped v.byte n (v.body - at)
unfolding is_container
reshaped {s} {at} {hi} {v} t near n h same one =
    let p : v.byte / 16 ≡ type_at s at = ap (λ (x : ℕ). x / 16) t.byte in
    let q : v.byte % 16 ≡ code_at s at = ap (λ (x : ℕ). x % 16) t.byte in
    let r : Reshaped v.byte n (1 + (v.body - (at + 1))) = field_reshaped t.field t.type t.legal (omega (arith, t.low)) near v.byte n p q h (λ l. same (scalar (omega arith))) (λ e c. one (struct (p ∙ e) (omega arith)) (p ∙ e)) in
    subst (Reshaped v.byte n) (omega (arith, t.low)) r
  where
    scalar : v.byte / 16 ≤ 10 → is_container v ≡ false
    scalar l = by_case (eqb (v.byte % 16) 15) (λ e. rw e) (λ e. rw (e, le-ltb 10 (v.byte / 16) l))

    struct : v.byte / 16 ≡ 13 → v.byte % 16 ≤ 14 → is_container v ≡ true
    struct t c = rw (ne_eqb (v.byte % 16) 15 (λ e. absurd (omega arith)), t)
