-- What a value of the document becomes, with its wrapper: it is no longer, and its lengths are those that nine bytes tell.
-- Assumes nothing.
use Prim.Native.Nat.{ℕ, ◌+◌, ◌-◌, ◌/◌, ◌^◌, ◌≤◌, ◌<◌}
use native.Mathlib.Omega.{arith}
use mathlib.Core.Path.{◌≡◌, ◌∙◌, sym, ap, subst}
use mathlib.Core.Bool.{true, false}
use mathlib.Core.List.{List}
use Rattle.numbers.specs.Bytes.{part}
use Rattle.numbers.specs.Format.{var_uint_of}
use Rattle.numbers.proofs.Parts.{part_length}
use Rattle.framing.specs.Spans.{Spans}
use Rattle.framing.specs.Format.{TypedValue, AnnotationWrapper, ValueBytes, plain, annotated}
use Rattle.framing.specs.Meaning.{Within}
use Rattle.values.specs.Scalars.{is_container}
use Rattle.encoding.specs.Fields.{var_uint_size}
use Rattle.encoding.specs.Heads.{head_size}
use Rattle.encoding.proofs.VarUInts.{var-uint-shortest}
use Rattle.encoding.proofs.Heads.{head-shortest, head_grows}
use Rattle.packing.specs.Tree.{kept_byte}
use Rattle.packing.specs.Private.Sizes.{header_size, wrapped_size, wrap_size}
use Rattle.packing.proofs.Sizes.{wrap_none, wrap_some}
use Rattle.packing.proofs.Shapes.{Shape, Reshaped, reshaped, length_small}

-- what can be written behind m bytes of annotations, and is read back under the limit
pub record Framed (limit m byte n : ℕ) : Type 0 where
  pub shape : Shape byte n
  pub few : m ≤ limit
  pub combined : 0 < m → wrapped_size m (header_size byte n + n) < 2 ^ 63

-- of a value at..v.end whose body then has n bytes
pub record Repacked (limit at : ℕ) (v : Spans) (n : ℕ) : Type 0 where
  pub framed : Framed limit (v.descriptor - v.annotations) (kept_byte v.byte n) n
  pub size : wrap_size (v.descriptor - v.annotations) (header_size (kept_byte v.byte n) n + n) ≤ v.end - at
  pub start : v.start ≡ at
  pub order : v.annotations ≤ v.descriptor
  pub bodied : v.descriptor < v.body
  pub ended : v.body ≤ v.end
  pub near : at ≤ v.annotations

both_fit : (a b after at end combined : ℕ) → a ≤ 1 + (after - (at + 1)) → b ≤ combined → combined ≡ end - after → at < after → after ≤ end → a + b ≤ end - at
both_fit a b after at end combined p q r l m = omega arith

module _ {limit : ℕ} {s : List ℕ} {at hi : ℕ} {v : Spans} (n : ℕ) (h : n ≤ v.end - v.body) (same : is_container v ≡ false → n ≡ v.end - v.body) (one : is_container v ≡ true → v.byte / 16 ≡ 13 → n ≡ 1 → ⊥) where
  plain_repacked : TypedValue s at hi v → v.body ≤ at + 1 + 9 → Repacked limit at v n
  plain_repacked t near =
      let r : Reshaped v.byte n (v.body - at) = reshaped t near n h same one in
      let z : v.descriptor - v.annotations ≡ 0 = omega (arith, t.annotations, t.descriptor) in
      record {
        framed = record { shape = r.shape; few = omega arith; combined = λ l. absurd (omega arith) };
        size = rw (z, wrap_none (header_size (kept_byte v.byte n) n + n)) (omega (arith, r.size, t.low, t.order));
        start = t.start;
        order = omega (arith, t.annotations, t.descriptor);
        bodied = omega (arith, t.low, t.descriptor);
        ended = t.order;
        near = omega (arith, t.annotations);
      }

  wrapper_repacked : (w : AnnotationWrapper s at hi v) → Within limit (annotated w) → Repacked limit at v n
  unfolding wrapped_size is_container
  wrapper_repacked w l =
      let i : Spans = w.inner in
      let holding : is_container v ≡ is_container i = ap (λ (x : ℕ). is_container (record { byte = x; start = 0; annotations = 0; descriptor = 0; body = 0; end = 0 })) w.byte in
      let r : Reshaped i.byte n (i.body - v.descriptor) = reshaped w.value (omega (arith, l.3, w.body)) n (omega (arith, w.body, w.ends)) (λ e. same (holding ∙ e) ∙ omega (arith, w.body, w.ends)) (λ c e. one (holding ∙ c) (ap (λ (x : ℕ). x / 16) w.byte ∙ e)) in
      let r' : Reshaped v.byte n (i.body - v.descriptor) = subst (λ (x : ℕ). Reshaped x n (i.body - v.descriptor)) (sym w.byte) r in
      let m : ℕ = v.descriptor - v.annotations in
      let worth : var_uint_of (part s w.after v.annotations) ≡ m = omega (arith, w.size) in
      let x : ℕ = header_size (kept_byte v.byte n) n + n in
      let some : 0 < m = omega (arith, w.some) in
      let value : x ≤ v.end - v.descriptor = omega (arith, r'.size, w.body, w.ends, w.value.low, w.value.order) in
      let count : var_uint_size m ≤ v.annotations - w.after = subst (λ (y : ℕ). var_uint_size y ≤ v.annotations - w.after) worth (omega (arith, var-uint-shortest (part s w.after v.annotations) w.count.bytes, part_length s w.after v.annotations (omega (arith, w.count.ends, w.count.within)))) in
      let below : wrapped_size m x ≤ w.combined = omega (arith, w.all, w.count.begins, w.some, w.value.low, w.value.order, w.ends) in
      let head : head_size (wrapped_size m x) ≤ 1 + (w.after - (at + 1)) = omega (arith, head_grows (wrapped_size m x) w.combined below, head-shortest s (at + 1) hi w.after _ w.combined w.field) in
      record {
        framed = record {
          shape = r'.shape;
          few = omega (arith, l.2, w.some);
          combined = λ _. omega (arith, length_small w.field l.0);
        };
        size = rw (wrap_some m x some) (both_fit (head_size (wrapped_size m x)) (wrapped_size m x) w.after at v.end w.combined head below w.all w.low (omega (arith, w.count.begins, w.some, w.value.low, w.value.order, w.ends)));
        start = w.start;
        order = omega (arith, w.some);
        bodied = omega (arith, w.value.low, w.body);
        ended = omega (arith, w.value.order, w.body, w.ends);
        near = omega (arith, w.low, w.count.begins);
      }

  pub repacked : (b : ValueBytes s at hi v) → Within limit b → Repacked limit at v n
  repacked (plain t) l = plain_repacked t l
  repacked (annotated w) l = wrapper_repacked w l
