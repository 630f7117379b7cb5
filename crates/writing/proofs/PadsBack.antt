-- A pad that is written is read as that pad, wherever it stands.
-- Assumes nothing.
use Prim.Native.Nat.{ℕ, suc, ◌+◌, ◌-◌, ◌/◌, ◌%◌, ◌^◌, ◌≤◌, ◌<◌}
use native.Mathlib.Omega.{arith}
use borrow.Author.Tests.{ltb-true, ltb-false}
use mathlib.Core.Path.{◌≡◌, refl, ◌∙◌, sym, ap, subst}
use mathlib.Core.List.{List, ◌∷◌, ◌++◌}
use lib.ListN.{length, get_or, replicate, length-replicate}
use lib.Dec.{ltb}
use Rattle.numbers.specs.Bytes.{part}
use Rattle.numbers.specs.Format.{VarBytes, var_uint_of, NumberAt}
use Rattle.numbers.proofs.Outcomes.{by_case}
use Rattle.framing.specs.Format.{type_at, code_at, CodeLength, short, long}
use Rattle.framing.proofs.Completeness.{pads-complete}
use Rattle.encoding.specs.Fields.{var_uint_in, fewest}
use Rattle.encoding.specs.Meaning.{StandsAt, WrittenIn}
use Rattle.encoding.proofs.VarUInts.{var_uint_written, fewest_enough}
use Rattle.encoding.proofs.Standing.{stands_first, stands_rest, stands_byte, stands_next}
use Rattle.writing.specs.Things.{pad_field, pad_bytes}
use Rattle.writing.specs.Theorems.{PadsBack}
use Rattle.writing.proofs.Pads.{length_by, field_none, field_from, field_some, field_length, pad_some, pad_few, pad_short, pad_long, pad_length}

-- what a pad of this size is made of
record Parts (s : List ℕ) (at end size : ℕ) : Type 0 where
  type : type_at s at ≡ 0
  field : CodeLength s (at + 1) end (at + 1 + pad_field size) (code_at s at) (size - 1 - pad_field size)
  zeros : StandsAt s (at + 1 + pad_field size) end (replicate (size - 1 - pad_field size) 0)

module _ (s : List ℕ) (at end size : ℕ) (some : 0 < size) (few : pad_field size ≤ 9) where
  short_parts : size < 15 → StandsAt s at end (pad_bytes size) → Parts s at end size
  short_parts h b =
      let c : StandsAt s at end ((size - 1) ∷ replicate (size - 1) 0) = subst (StandsAt s at end) (pad_short size h) b in
      let f : pad_field size ≡ 0 = field_none size h in
      let byte : get_or s at 0 ≡ size - 1 = stands_byte (size - 1) (replicate (size - 1) 0) c in
      let code : code_at s at ≡ size - 1 = ap (λ (x : ℕ). x % 16) byte ∙ omega arith in
      let z : size - 1 - 0 ≡ size - 1 = omega arith in
      let p : at + 1 + 0 ≡ at + 1 = omega arith in
      record {
        type = ap (λ (x : ℕ). x / 16) byte ∙ omega arith;
        field = rw (f, code, z, p) (short {code = size - 1} (omega arith) refl);
        zeros = rw (f, z, p) (stands_next (size - 1) (replicate (size - 1) 0) c);
      }

  long_parts : 15 ≤ size → StandsAt s at end (pad_bytes size) → Parts s at end size
  long_parts h b =
      let f : ℕ = pad_field size in
      let n : ℕ = size - 1 - f in
      let v : List ℕ = var_uint_in (f - 1) n in
      let zs : List ℕ = replicate n 0 in
      let c : StandsAt s at end (14 ∷ (v ++ zs)) = subst (StandsAt s at end) (pad_long size h) b in
      let byte : get_or s at 0 ≡ 14 = stands_byte 14 (v ++ zs) c in
      let d : StandsAt s (at + 1) end (v ++ zs) = stands_next 14 (v ++ zs) c in
      let l : length v ≡ f = field_length size n h in
      let w : WrittenIn (f - 1) n = var_uint_written (f - 1) n in
      let e : fewest 9 1 (length_by size) ≡ f = sym (field_from size h) in
      let small : n < 128 ^ f = subst (λ (k : ℕ). length_by size k < 128 ^ k) e (fewest_enough (length_by size) 9 1 (omega arith)) in
      let o : suc (f - 1) ≡ f = omega (arith, field_some size h) in
      let first : StandsAt s (at + 1) end v = stands_first v zs d in
      let same : part s (at + 1) (at + 1 + f) ≡ v = subst (λ (k : ℕ). part s (at + 1) (at + 1 + k) ≡ v) l first.same in
      let number : NumberAt s (at + 1) end (at + 1 + f) = record { bytes = subst VarBytes (sym same) w.bytes; begins = omega (arith, field_some size h); ends = omega (arith, first.fits); within = first.within } in
      let worth : var_uint_of (part s (at + 1) (at + 1 + f)) ≡ n = ap var_uint_of same ∙ w.worth (subst (λ (k : ℕ). n < 128 ^ k) (sym o) small) in
      record {
        type = ap (λ (x : ℕ). x / 16) byte;
        field = subst (λ (k : ℕ). CodeLength s (at + 1) end (at + 1 + f) k n) (sym (ap (λ (x : ℕ). x % 16) byte))
            (subst (CodeLength s (at + 1) end (at + 1 + f) 14) worth (long number));
        zeros = subst (λ (k : ℕ). StandsAt s (at + 1 + k) end zs) l (stands_rest v zs d);
      }

  field_below : pad_field size ≤ size - 1
  field_below = by_case (ltb size 15) (λ e. omega (arith, field_none size (ltb-true size 15 e))) (λ e. omega (arith, ltb-false size 15 e))

pub pads-back : PadsBack
pads-back limit deepest size h s at end b =
    let some : 0 < size = pad_some size h.short in
    let few : pad_field size ≤ 9 = pad_few size h.short in
    let whole : length (pad_bytes size) ≡ size = pad_length size h.short in
    let low : pad_field size ≤ size - 1 = field_below s at end size some few in
    let p : Parts s at end size = by_case (ltb size 15) (λ e. short_parts s at end size some few (ltb-true size 15 e) b) (λ e. long_parts s at end size some few (ltb-false size 15 e) b) in
    let m : at + size - (at + 1 + pad_field size) ≡ size - 1 - pad_field size = omega arith in
    let n : at + 1 + pad_field size + length (replicate {A = ℕ} (size - 1 - pad_field size) 0) ≡ at + size = omega (arith, length-replicate {A = ℕ} (size - 1 - pad_field size) 0) in
    record {
      whole = whole;
      framed = (pads-complete limit s at end (record { body = at + 1 + pad_field size; end = at + size })
          (record { type = p.type; field = rw m p.field; low = omega arith; order = omega arith; fits = omega (arith, b.fits); within = b.within })
          (omega arith)).1;
      zeros = subst (λ (x : ℕ). part s (at + 1 + pad_field size) x ≡ replicate (size - 1 - pad_field size) 0) n p.zeros.same;
    }
