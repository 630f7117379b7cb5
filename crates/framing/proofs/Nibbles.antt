-- What a descriptor begins, by its type and length code: values, pads and wrappers, in both directions.
-- Assumes nothing.
use Prim.Native.Nat.{ℕ, zero, suc, ◌/◌, ◌%◌, ◌≤◌, ◌<◌}
use native.Mathlib.Omega.{arith}
use borrow.Author.Tests.{ltb-true, ltb-false, eqb-true, eqb-false}
use mathlib.Core.Path.{◌≡◌, refl, sym, subst}
use mathlib.Core.Bool.{true, false, true≢false}
use lib.Dec.{ltb, eqb}
use Rattle.numbers.specs.Descriptor.{kind_of}
use Rattle.numbers.specs.declared.type_descriptor.Kind.{Kind}
use Rattle.numbers.specs.declared.type_descriptor.Kind.TheVariants.{Value, Null, Pad, Marker, Wrapper, Reserved}
use Rattle.numbers.proofs.Outcomes.{by_test}
use Rattle.framing.specs.Answers.{is_pad, is_wrapper, no_value}
use Rattle.framing.specs.Format.{ValueType, typed, null_null}

-- what a kind tells, by the tests of its definition
module _ (type code : ℕ) (P : Kind → Type 0) where
  by_kind : (14 < type → P Reserved) → (type ≡ 14 → code ≡ 0 → P Marker) → (type ≡ 14 → 0 < code → P Wrapper) → (type ≤ 13 → code ≡ 15 → P Null) → (type ≡ 0 → (code ≡ 15 → ⊥) → P Pad) → (1 ≤ type → type ≤ 13 → P Value) → P (kind_of type code)
  unfolding kind_of
  by_kind reserved marker wrapper null pad value =
      by_test P (ltb 14 type) (λ h. reserved (ltb-true 14 type h)) (λ h.
      by_test P (eqb type 14)
      (λ e.
      by_test P (eqb code 0) (λ z. marker (eqb-true type 14 e) (eqb-true code 0 z)) (λ z.
      wrapper (eqb-true type 14 e) (omega (arith, eqb-false code 0 z))))
      (λ e.
      let l : type ≤ 13 = omega (arith, ltb-false 14 type h, eqb-false type 14 e) in
      by_test P (eqb code 15) (λ n. null l (eqb-true code 15 n)) (λ n.
      by_test P (eqb type 0) (λ z. pad (eqb-true type 0 z) (eqb-false code 15 n)) (λ z. value (omega (arith, eqb-false type 0 z)) l))))

-- a null of any type
null_type : (type code : ℕ) → type ≤ 13 → code ≡ 15 → ValueType type code
null_type zero code h e = subst (ValueType 0) (sym e) null_null
null_type (suc t) code h e = let one : 1 ≤ suc t = omega arith in typed one h

pub value-kind : (type code : ℕ) → no_value (kind_of type code) ≡ false → ValueType type code
value-kind type code =
    by_kind type code (λ k. no_value k ≡ false → ValueType type code)
    (λ _ e. absurd (true≢false e))
    (λ _ _ e. absurd (true≢false e))
    (λ _ _ e. absurd (true≢false e))
    (λ h e _. null_type type code h e)
    (λ _ _ e. absurd (true≢false e))
    (λ a b _. typed a b)

pub record WrapperKind (type code : ℕ) : Type 0 where
  pub type_is : type ≡ 14
  pub some : 0 < code

pub wrapper_kind : (type code : ℕ) → is_wrapper (kind_of type code) ≡ true → WrapperKind type code
wrapper_kind type code =
    by_kind type code (λ k. is_wrapper k ≡ true → WrapperKind type code)
    (λ _ e. absurd (true≢false (sym e)))
    (λ _ _ e. absurd (true≢false (sym e)))
    (λ t c _. record { type_is = t; some = c })
    (λ _ _ e. absurd (true≢false (sym e)))
    (λ _ _ e. absurd (true≢false (sym e)))
    (λ _ _ e. absurd (true≢false (sym e)))

pub record PadKind (type code : ℕ) : Type 0 where
  pub type_is : type ≡ 0
  pub no_null : code ≡ 15 → ⊥

pub pad_kind : (type code : ℕ) → is_pad (kind_of type code) ≡ true → PadKind type code
pad_kind type code =
    by_kind type code (λ k. is_pad k ≡ true → PadKind type code)
    (λ _ e. absurd (true≢false (sym e)))
    (λ _ _ e. absurd (true≢false (sym e)))
    (λ _ _ e. absurd (true≢false (sym e)))
    (λ _ _ e. absurd (true≢false (sym e)))
    (λ t c _. record { type_is = t; no_null = c })
    (λ _ _ e. absurd (true≢false (sym e)))

-- the bytes below 15 begin pads, and no others do
pub record PadByte (k : Kind) : Type 0 where
  pub wrapper : is_wrapper k ≡ false
  pub value : no_value k ≡ true

pub pad_byte : (b : ℕ) → b < 15 → PadByte (kind_of (b / 16) (b % 16))
pad_byte b h =
    by_kind (b / 16) (b % 16) PadByte
    (λ t. absurd (omega arith))
    (λ t _. absurd (omega arith))
    (λ t _. absurd (omega arith))
    (λ _ n. absurd (omega arith))
    (λ _ _. record { wrapper = refl; value = refl })
    (λ t _. absurd (omega arith))

pub no_pad_byte : (b : ℕ) → 15 ≤ b → is_pad (kind_of (b / 16) (b % 16)) ≡ false
no_pad_byte b h =
    by_kind (b / 16) (b % 16) (λ k. is_pad k ≡ false)
    (λ _. refl)
    (λ _ _. refl)
    (λ _ _. refl)
    (λ _ _. refl)
    (λ t n. let e : b % 16 ≡ 15 = omega arith in absurd (n e))
    (λ _ _. refl)

-- and back
pub record IsValue (k : Kind) : Type 0 where
  pub value : no_value k ≡ false
  pub wrapper : is_wrapper k ≡ false
  pub pad : is_pad k ≡ false

pub is_value : {type code : ℕ} → ValueType type code → IsValue (kind_of type code)
is_value {type} {code} (typed a b) =
    by_kind type code IsValue
    (λ h. absurd (omega arith))
    (λ t _. absurd (omega arith))
    (λ t _. absurd (omega arith))
    (λ _ _. record { value = refl; wrapper = refl; pad = refl })
    (λ t _. absurd (omega arith))
    (λ _ _. record { value = refl; wrapper = refl; pad = refl })
is_value null_null =
    by_kind 0 15 IsValue
    (λ h. absurd (omega arith))
    (λ t _. absurd (omega arith))
    (λ t _. absurd (omega arith))
    (λ _ _. record { value = refl; wrapper = refl; pad = refl })
    (λ _ n. absurd (n refl))
    (λ h _. absurd (omega arith))

pub record IsWrapper (k : Kind) : Type 0 where
  pub wrapper : is_wrapper k ≡ true
  pub pad : is_pad k ≡ false

pub is-wrapper : (type code : ℕ) → type ≡ 14 → 0 < code → IsWrapper (kind_of type code)
is-wrapper type code t c =
    by_kind type code IsWrapper
    (λ h. absurd (omega arith))
    (λ _ z. absurd (omega arith))
    (λ _ _. record { wrapper = refl; pad = refl })
    (λ h _. absurd (omega arith))
    (λ z _. absurd (omega arith))
    (λ _ h. absurd (omega arith))

pub is-pad : (type code : ℕ) → type ≡ 0 → code < 15 → is_pad (kind_of type code) ≡ true
is-pad type code t c =
    by_kind type code (λ k. is_pad k ≡ true)
    (λ h. absurd (omega arith))
    (λ z _. absurd (omega arith))
    (λ z _. absurd (omega arith))
    (λ _ e. absurd (omega arith))
    (λ _ _. refl)
    (λ h _. absurd (omega arith))
