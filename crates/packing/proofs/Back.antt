-- What is written of a value is read back, wherever it stands: its spans, and the bytes of its annotations and its body.
-- Assumes nothing.
use Prim.Native.Nat.{ℕ, ◌+◌, ◌-◌, ◌*◌, ◌/◌, ◌%◌, ◌^◌, ◌≤◌, ◌<◌}
use native.Mathlib.Omega.{arith}
use mathlib.Core.Path.{◌≡◌, refl, ◌∙◌, sym, ap, subst}
use mathlib.Core.Bool.{Bool, true, false, true≢false}
use mathlib.Core.List.{List, [], ◌∷◌, ◌++◌}
use lib.ListN.{length, get_or}
use lib.Dec.{ltb, eqb}
use mathlib.Core.Logic.{inr}
use borrow.Author.Tests.{le-ltb, ltb-true, ltb-false, eqb-true, eqb-false, eq-eqb, ne_eqb}
use Rattle.numbers.specs.Outcome.{pick}
use Rattle.numbers.specs.Bytes.{part}
use Rattle.numbers.proofs.Outcomes.{by_case, by_test}
use Rattle.numbers.proofs.Parts.{part_none}
use Rattle.framing.specs.Spans.{Spans}
use Rattle.framing.specs.Format.{type_at, code_at, CodeLength, long, ValueLength, none, null, ordered, ValueType, typed, Legal, TypedValue, ValueBytes, plain, annotated}
use Rattle.framing.specs.Meaning.{Within}
use Rattle.stepping.specs.declared.cursor.Rules.{Rules}
use Rattle.stepping.specs.declared.cursor.Rules.TheVariants.{Sequence, Fields}
use Rattle.encoding.specs.Fields.{var_uint_size, var_uint_bytes}
use Rattle.encoding.specs.Heads.{head_bytes, head_byte, head_size, typed_bytes, typed_spans, wrapped_bytes, wrapper_bytes, wrapper_spans}
use Rattle.encoding.specs.Meaning.{StandsAt, Writable, Wrapper}
use Rattle.encoding.proofs.VarUInts.{bytes_size}
use Rattle.encoding.proofs.Standing.{stands_first, stands_rest, stands_byte, stands_next}
use Rattle.encoding.proofs.Heads.{head_length, head_type, head-code, code_below, code_same, NumberStands, number_stands, typed-back, wrapper-back, wrapped_length, wrapper_length}
use Rattle.packing.specs.Tree.{lengthless, ordered_byte, kept_byte, header_of, wrapping}
use Rattle.packing.specs.Private.Sizes.{header_size, wrapped_size}
use Rattle.packing.proofs.Sizes.{null_lengthless, has_length, ordered_has, bare_size, bare_bytes, bare_kept, ordered_size, ordered_bytes, ordered_kept, coded_size, coded_bytes, coded_kept, header_length, value-length, wrapped-size}
use Rattle.packing.proofs.Shapes.{Shape, bare, in_order, lengthed}
use Rattle.packing.proofs.Values.{Framed}

-- the descriptor that is written, with its length
unfoldable pub wire_byte : ℕ → ℕ → ℕ
wire_byte byte n = pick (lengthless byte) byte (pick (eqb byte ordered_byte) byte (head_byte (byte / 16) n))

-- where a value stands by itself, from `at` on
abbrev pub bare_at : ℕ → ℕ → ℕ → Spans
bare_at byte at n =
    record {
      byte = wire_byte byte n;
      start = at;
      annotations = at;
      descriptor = at;
      body = at + header_size byte n;
      end = at + header_size byte n + n;
    }

pub bare_wire : (byte n : ℕ) → lengthless byte ≡ true → wire_byte byte n ≡ byte
unfolding wire_byte
bare_wire byte n e = rw e

ordered_wire : (n : ℕ) → wire_byte ordered_byte n ≡ ordered_byte
unfolding wire_byte
ordered_wire n = rw ordered_has

coded_wire : (byte n : ℕ) → lengthless byte ≡ false → (byte ≡ ordered_byte → ⊥) → wire_byte byte n ≡ head_byte (byte / 16) n
unfolding wire_byte
coded_wire byte n e o = rw (e, ne_eqb byte ordered_byte o)

-- a type with a length is neither
pub coded_has : (type : ℕ) → 2 ≤ type → lengthless (type * 16) ≡ false
coded_has type h = has_length (type * 16) (omega arith) (λ x. absurd (omega arith))

pub coded_not : (type : ℕ) → type * 16 ≡ ordered_byte → ⊥
coded_not type e = absurd (omega arith)

-- ---- a value by itself

lengthless_null : (byte : ℕ) → lengthless byte ≡ true → 2 ≤ byte / 16 → byte % 16 ≡ 15
unfolding lengthless
lengthless_null byte e h =
    let e' : eqb (byte % 16) 15 ≡ true = rw (le-ltb (byte / 16) 2 h) at e in
    eqb-true (byte % 16) 15 e'

bare_field : (s : List ℕ) (at hi b byte : ℕ) → lengthless byte ≡ true → b ≡ at → ValueLength s at hi b (byte / 16) (byte % 16) 0
bare_field s at hi b byte e p =
    by_case (ltb (byte / 16) 2) (λ t. none (ltb-true (byte / 16) 2 t) p) (λ t.
    let h : 2 ≤ byte / 16 = ltb-false (byte / 16) 2 t in
    subst (λ (c : ℕ). ValueLength s at hi b (byte / 16) c 0) (sym (lengthless_null byte e h)) (null h p))

bare_legal : (byte : ℕ) → lengthless byte ≡ true → Legal (byte / 16) (byte % 16) 0
bare_legal byte e =
    record {
      float = λ t. inr (inr (inr (lengthless_null byte e (omega arith))));
      timestamp = λ t l. absurd (omega (arith, lengthless_null byte e (omega arith)));
      ordered = λ t o. absurd (omega (arith, lengthless_null byte e (omega arith)));
    }

pub record TypedStands (s : List ℕ) (at hi byte n : ℕ) : Type 0 where
  pub value : TypedValue s at hi (bare_at byte at n)
  pub near : header_size byte n ≤ 1 + 9

module _ (s : List ℕ) (at hi byte : ℕ) (body : List ℕ) (b : StandsAt s at hi (header_of byte (length body) ++ body)) where
  size : at + header_size byte (length body) + length body ≤ hi
  size = omega (arith, b.fits, value-length byte body)

  bare_stands : lengthless byte ≡ true → ValueType (byte / 16) (byte % 16) → length body ≡ 0 → TypedStands s at hi byte (length body)
  bare_stands e t z =
      let n : ℕ = length body in
      let h : header_size byte n ≡ 1 = bare_size byte n e in
      let b' : StandsAt s at hi ((byte ∷ []) ++ body) = subst (λ (l : List ℕ). StandsAt s at hi (l ++ body)) (bare_bytes byte n e) b in
      let here : get_or s at 0 ≡ byte = stands_byte byte body b' in
      let m : at + header_size byte n + n - (at + header_size byte n) ≡ 0 = omega arith in
      let t' : ValueType (type_at s at) (code_at s at) = rw here t in
      record {
        value = record {
          type = t';
          field = rw (m, here) (bare_field s (at + 1) hi (at + header_size byte n) byte e (omega arith));
          legal = rw (m, here) (bare_legal byte e);
          byte = bare_wire byte n e ∙ sym here;
          start = refl;
          annotations = refl;
          descriptor = refl;
          low = omega arith;
          order = omega arith;
          fits = size;
          within = b.within;
        };
        near = omega arith;
      }

  ordered_stands : byte ≡ ordered_byte → 0 < length body → length body < 2 ^ 63 → TypedStands s at hi byte (length body)
  ordered_stands e some small =
      let n : ℕ = length body in
      let h : header_size byte n ≡ 1 + var_uint_size n = ap (λ (x : ℕ). header_size x n) e ∙ ordered_size n in
      let bytes : header_of byte n ≡ ordered_byte ∷ var_uint_bytes n = ap (λ (x : ℕ). header_of x n) e ∙ ordered_bytes n in
      let b' : StandsAt s at hi (ordered_byte ∷ (var_uint_bytes n ++ body)) = subst (λ (l : List ℕ). StandsAt s at hi (l ++ body)) bytes b in
      let here : get_or s at 0 ≡ ordered_byte = stands_byte ordered_byte (var_uint_bytes n ++ body) b' in
      let z : NumberStands s (at + 1) hi n = number_stands s (at + 1) hi n small (stands_first (var_uint_bytes n) body (stands_next ordered_byte (var_uint_bytes n ++ body) b')) in
      let m : at + header_size byte n + n - (at + header_size byte n) ≡ n = omega arith in
      let q : at + header_size byte n ≡ at + 1 + var_uint_size n = omega arith in
      let f : CodeLength s (at + 1) hi (at + header_size byte n) 14 n = subst (λ (x : ℕ). CodeLength s (at + 1) hi x 14 n) (sym q) (subst (CodeLength s (at + 1) hi (at + 1 + var_uint_size n) 14) z.worth (long z.number)) in
      record {
        value = record {
          type = typed {type = type_at s at} (omega (arith, here)) (omega (arith, here));
          field = rw (m, here) (ordered f);
          legal = rw (m, here) (record { float = λ t. absurd (omega arith); timestamp = λ t l. absurd (omega arith); ordered = λ _ _. some });
          byte = ap (λ (x : ℕ). wire_byte x n) e ∙ ordered_wire n ∙ sym here;
          start = refl;
          annotations = refl;
          descriptor = refl;
          low = omega arith;
          order = omega arith;
          fits = size;
          within = b.within;
        };
        near = omega (arith, z.few);
      }

  coded_stands : (type : ℕ) → byte ≡ type * 16 → Writable type (length body) → TypedStands s at hi byte (length body)
  unfolding typed_bytes
  coded_stands type e w =
      let n : ℕ = length body in
      let has : lengthless byte ≡ false = ap lengthless e ∙ coded_has type w.low in
      let not : byte ≡ ordered_byte → ⊥ = λ o. coded_not type (sym e ∙ o) in
      let t : byte / 16 ≡ type = omega arith in
      let h : head_size n ≡ header_size byte n = sym (coded_size byte n has not) in
      let bytes : header_of byte n ≡ head_bytes type n = coded_bytes byte n has not ∙ ap (λ (x : ℕ). head_bytes x n) t in
      let b' : StandsAt s at hi (typed_bytes type body) = subst (λ (l : List ℕ). StandsAt s at hi (l ++ body)) bytes b in
      let r = typed-back s at hi type body w b' in
      let wire : head_byte type n ≡ wire_byte byte n = ap (λ (x : ℕ). head_byte x n) (sym t) ∙ sym (coded_wire byte n has not) in
      record {
        value = subst (TypedValue s at hi) (spans_same type n wire h) r.0;
        near = omega (arith, r.1);
      }
    where
      spans_same : (type n : ℕ) → head_byte type n ≡ wire_byte byte n → head_size n ≡ header_size byte n → typed_spans type at n ≡ bare_at byte at n
      spans_same type n p q = rw (p, q)

  pub typed_stands : Shape byte (length body) → TypedStands s at hi byte (length body)
  typed_stands (bare e t z) = bare_stands e t z
  typed_stands (in_order e some small) = ordered_stands e some small
  typed_stands (lengthed type e w) = coded_stands type e w

-- ---- the descriptor that is read back

-- a container, by its descriptor
unfoldable pub holds : ℕ → Bool
holds byte = pick (eqb (byte % 16) 15) false (ltb 10 (byte / 16))

abbrev pub rules_by : ℕ → Rules
rules_by byte = pick (eqb (byte / 16) 13) Fields Sequence

-- two descriptors of one type, both null or neither
pub record Kin (a b : ℕ) : Type 0 where
  pub type : a / 16 ≡ b / 16
  pub null_too : eqb (a % 16) 15 ≡ eqb (b % 16) 15

kin_same : {a b : ℕ} → a ≡ b → Kin a b
kin_same e = record { type = ap (λ (x : ℕ). x / 16) e; null_too = ap (λ (x : ℕ). eqb (x % 16) 15) e }

kin_coded : {a b : ℕ} → a / 16 ≡ b / 16 → (a % 16 ≡ 15 → ⊥) → (b % 16 ≡ 15 → ⊥) → Kin a b
kin_coded {a} {b} t p q = record { type = t; null_too = ne_eqb (a % 16) 15 p ∙ sym (ne_eqb (b % 16) 15 q) }

pub kin_holds : {a b : ℕ} → Kin a b → holds a ≡ holds b
unfolding holds
kin_holds k = rw (k.type, k.null_too)

pub kin_rules : {a b : ℕ} → Kin a b → rules_by a ≡ rules_by b
kin_rules k = rw k.type

-- a byte without its length
pub kept_kin : (byte n : ℕ) → Kin (kept_byte byte n) byte
unfolding kept_byte
kept_kin byte n =
    by_test (λ (x : ℕ). Kin x byte) (lengthless byte) (λ _. kin_same refl) (λ e.
    by_test (λ (x : ℕ). Kin x byte) (eqb byte ordered_byte)
    (λ o.
    let is : byte ≡ ordered_byte = eqb-true byte ordered_byte o in
    by_test (λ (x : ℕ). Kin x byte) (eqb n 0) (λ _. kin_coded (omega arith) (λ x. absurd (omega arith)) (λ x. absurd (omega arith))) (λ _. kin_same (sym is)))
    (λ o. kin_coded (omega arith) (λ x. absurd (omega arith)) (λ x. no_null e x)))
  where
    no_null : lengthless byte ≡ false → byte % 16 ≡ 15 → ⊥
    no_null e x = true≢false (sym (null_lengthless byte x) ∙ e)

-- with its length
module _ (byte n : ℕ) where
  pub wire_kin : Shape byte n → Kin (wire_byte byte n) byte
  wire_kin (bare e t z) = kin_same (bare_wire byte n e)
  wire_kin (in_order e some small) = kin_same (ap (λ (x : ℕ). wire_byte x n) e ∙ ordered_wire n ∙ sym e)
  wire_kin (lengthed type e w) =
      let has : lengthless byte ≡ false = ap lengthless e ∙ coded_has type w.low in
      let q : wire_byte byte n ≡ head_byte (byte / 16) n = coded_wire byte n has (λ o. coded_not type (sym e ∙ o)) in
      kin_coded (omega (arith, q, head_type (byte / 16) n)) (λ x. absurd (omega (arith, q, head-code (byte / 16) n, code_below n))) (λ x. absurd (omega arith))

  pub wire_kept : Shape byte n → kept_byte (wire_byte byte n) n ≡ byte
  wire_kept (bare e t z) = ap (λ (x : ℕ). kept_byte x n) (bare_wire byte n e) ∙ bare_kept byte n e
  wire_kept (in_order e some small) =
      ap (λ (x : ℕ). kept_byte x n) (ap (λ (x : ℕ). wire_byte x n) e ∙ ordered_wire n) ∙ ordered_kept n some ∙ sym e
  wire_kept (lengthed type e w) =
      let has : lengthless byte ≡ false = ap lengthless e ∙ coded_has type w.low in
      let t : byte / 16 ≡ type = omega arith in
      let q : wire_byte byte n ≡ head_byte type n = coded_wire byte n has (λ o. coded_not type (sym e ∙ o)) ∙ ap (λ (x : ℕ). head_byte x n) t in
      let has' : lengthless (head_byte type n) ≡ false = has_length (head_byte type n) (omega (arith, head_type type n, w.low)) (λ x. absurd (omega (arith, head-code type n, code_below n))) in
      let not' : head_byte type n ≡ ordered_byte → ⊥ = λ o. w.struct (sym (head_type type n) ∙ omega arith) (code_same n 1 (omega arith) (sym (head-code type n) ∙ omega arith)) in
      ap (λ (x : ℕ). kept_byte x n) q ∙ coded_kept (head_byte type n) n has' not' ∙ ap (λ (x : ℕ). x * 16) (head_type type n) ∙ sym e

-- ---- a value with its wrapper

-- the spans of what stands from `at` on, and the bytes at them
pub record Stood (limit : ℕ) (s : List ℕ) (at hi : ℕ) (annotations : List ℕ) (byte : ℕ) (body : List ℕ) : Type 0 where
  pub v : Spans
  pub bytes : ValueBytes s at hi v
  pub within : Within limit bytes
  pub byte_is : v.byte ≡ wire_byte byte (length body)
  pub start : v.start ≡ at
  pub annotations_are : part s v.annotations v.descriptor ≡ annotations
  pub body_is : part s v.body v.end ≡ body
  pub end : v.end ≡ at + length (wrapping annotations (header_of byte (length body) ++ body))
  pub order : v.end ≡ v.body + length body

none_left : (l : List ℕ) → length l ≡ 0 → [] ≡ l
none_left [] e = refl
none_left (x ∷ l) e = absurd (omega arith)

-- a part by its end
part_by : (s l : List ℕ) (a b hi : ℕ) → StandsAt s a hi l → b ≡ a + length l → part s a b ≡ l
part_by s l a b hi t e = ap (part s a) e ∙ t.same

module _ (limit : ℕ) (s : List ℕ) (at hi : ℕ) (annotations : List ℕ) (byte : ℕ) (body : List ℕ) (f : Framed limit (length annotations) byte (length body)) where
  -- the value's body, behind its header
  body_stands : (d : ℕ) → StandsAt s d hi (header_of byte (length body) ++ body) → StandsAt s (d + header_size byte (length body)) hi body
  body_stands d b = subst (λ (x : ℕ). StandsAt s (d + x) hi body) (header_length byte (length body)) (stands_rest (header_of byte (length body)) body b)

  plain_stood : length annotations ≡ 0 → StandsAt s at hi (header_of byte (length body) ++ body) → Stood limit s at hi annotations byte body
  unfolding wrapping
  plain_stood z b =
      let t : TypedStands s at hi byte (length body) = typed_stands s at hi byte body b f.shape in
      record {
        v = bare_at byte at (length body);
        bytes = plain t.value;
        within = omega (arith, t.near);
        byte_is = refl;
        start = refl;
        annotations_are = part_none s at ∙ none_left annotations z;
        body_is = part_by s body (at + header_size byte (length body)) (at + header_size byte (length body) + length body) hi (body_stands at b) refl;
        end = rw (eq-eqb (length annotations) 0 z, value-length byte body) (omega arith);
        order = refl;
      }

  wrapped_stood : 0 < length annotations → StandsAt s at hi (wrapper_bytes annotations (header_of byte (length body) ++ body)) → Stood limit s at hi annotations byte body
  unfolding wrapping wrapper_bytes typed_bytes wrapped_bytes
  wrapped_stood some b =
      let value : List ℕ = header_of byte (length body) ++ body in
      let m : ℕ = length annotations in
      let n : ℕ = length (wrapped_bytes annotations value) in
      let size : length value ≡ header_size byte (length body) + length body = value-length byte body in
      let is : n ≡ var_uint_size m + (m + length value) = wrapped_length annotations value in
      let whole : length (wrapper_bytes annotations value) ≡ head_size n + n = wrapper_length annotations value in
      let small : n < 2 ^ 63 = subst (λ (x : ℕ). x < 2 ^ 63) (ap (wrapped_size m) (sym size) ∙ sym (wrapped-size annotations value)) (f.combined some) in
      let after : ℕ = at + head_size n in
      let r : StandsAt s after hi (wrapped_bytes annotations value) = subst (λ (x : ℕ). StandsAt s (at + x) hi (wrapped_bytes annotations value)) (head_length 14 n) (stands_rest (head_bytes 14 n) (wrapped_bytes annotations value) b) in
      let r' : StandsAt s (after + var_uint_size m) hi (annotations ++ value) = subst (λ (x : ℕ). StandsAt s (after + x) hi (annotations ++ value)) (bytes_size m) (stands_rest (var_uint_bytes m) (annotations ++ value) r) in
      let a : ℕ = after + var_uint_size m in
      let d : ℕ = a + m in
      let inner : Spans = bare_at byte d (length body) in
      let q : StandsAt s d hi value = stands_rest annotations value r' in
      let t : TypedStands s d hi byte (length body) = typed_stands s d hi byte body q f.shape in
      let w : Wrapper s at hi m inner = wrapper-back s at hi annotations value inner some small b t.value (omega arith) (omega arith) in
      let back : d - m ≡ a = omega arith in
      record {
        v = wrapper_spans at m inner;
        bytes = annotated w.is;
        within = (w.near, w.close, omega (arith, f.few), omega (arith, t.near));
        byte_is = refl;
        start = refl;
        annotations_are = ap (λ (x : ℕ). part s x d) back ∙ part_by s annotations a d hi (stands_first annotations value r') refl;
        body_is = part_by s body (d + header_size byte (length body)) (d + header_size byte (length body) + length body) hi (body_stands d q) refl;
        end = rw (ne_eqb m 0 (λ e. omega arith)) (omega arith);
        order = refl;
      }

  pub stood : StandsAt s at hi (wrapping annotations (header_of byte (length body) ++ body)) → Stood limit s at hi annotations byte body
  unfolding wrapping
  stood b =
      by_case (eqb (length annotations) 0)
      (λ z.
      let b' : StandsAt s at hi (header_of byte (length body) ++ body) = rw z at b in
      plain_stood (eqb-true (length annotations) 0 z) b')
      (λ z.
      let b' : StandsAt s at hi (wrapper_bytes annotations (header_of byte (length body) ++ body)) = rw z at b in
      wrapped_stood (omega (arith, eqb-false (length annotations) 0 z)) b')
