-- What a descriptor tells of its value's length: the table of length codes holds the rule, by one computed test; and a length that is told is what the reading
-- of a length gives.
-- Assumes nothing.
use Prim.Native.Nat.{ℕ, zero, suc, ◌+◌, ◌/◌, ◌%◌, ◌^◌, ◌<◌}
use native.Mathlib.Omega.{arith}
use borrow.Author.Tests.{eqb-true, eqb-false, not-true, lt-ltb, ltb-true, ne_eqb}
use mathlib.Core.Path.{◌≡◌, refl, sym, subst}
use mathlib.Core.Bool.{Bool, true, false, not, true≢false}
use mathlib.Core.List.{List}
use lib.Dec.{T, ltb, eqb}
use Rattle.numbers.specs.Outcome.{gives, pick}
use Rattle.numbers.specs.Descriptor.{kind_of}
use Rattle.numbers.specs.declared.type_descriptor.TypeDescriptor.{TypeDescriptor}
use Rattle.numbers.proofs.Outcomes.{by_test, by_case}
use Rattle.framing.proofs.Table.{first_test, second_test}
use Rattle.framing.specs.Answers.{no_value, length_at, value_code, bad_float, short_timestamp, empty_ordered, length_tests, value_length}
use Rattle.framing.specs.Private.InlineLengths.{inline_length, has_inline_length, inline_codes, is_ordered, has_length_field}

-- ---- the table

abbrev same : Bool → Bool → Bool
same true b = b
same false b = not b

same_is : (a b : Bool) → T (same a b) → a ≡ b
same_is true true h = refl
same_is true false h = absurd h
same_is false true h = absurd h
same_is false false h = refl

-- whether a test holds at each number below n
abbrev below : ℕ → (ℕ → Bool) → Bool
below zero p = true
below (suc n) p = pick (p n) (below n p) false

holds_at : (n : ℕ) (p : ℕ → Bool) → T (below n p) → (k : ℕ) → k < n → T (p k)
holds_at zero p h k l = absurd (omega arith)
holds_at (suc n) p h k l =
    by_case (eqb k n) (λ e. subst (λ x. T (p x)) (sym (eqb-true k n e)) (first_test (p n) (below n p) h)) (λ e.
    holds_at n p (second_test (p n) (below n p) h) k (omega (arith, eqb-false k n e)))

abbrev agrees : ℕ → ℕ → Bool
agrees type code = same (eqb (inline_codes type / 2 ^ code % 2) 1) (has_inline_length type code)

pub bit_inline : (type code : ℕ) → type < 16 → code < 16 → eqb (inline_codes type / 2 ^ code % 2) 1 ≡ has_inline_length type code
unfolding inline_codes has_inline_length kind_of value_code bad_float short_timestamp inline_length
bit_inline type code t c =
    same_is _ _ (holds_at 16 (agrees type) (holds_at 16 (λ x. below 16 (agrees x)) tt type t) code c)

-- ---- what is told

pub record Inline (type code : ℕ) : Type 0 where
  pub value : no_value (kind_of type code) ≡ false
  pub code_is : eqb (value_code type code) 14 ≡ false
  pub float : bad_float type code ≡ false
  pub timestamp : short_timestamp type code (inline_length type code) ≡ false

pub inline_means : (type code : ℕ) → has_inline_length type code ≡ true → Inline type code
unfolding has_inline_length
inline_means type code =
    by_test (λ b. b ≡ true → Inline type code) (ltb 15 code) (λ _ e. absurd (true≢false (sym e))) (λ _.
    by_test (λ b. b ≡ true → Inline type code) (no_value (kind_of type code)) (λ _ e. absurd (true≢false (sym e))) (λ v.
    by_test (λ b. b ≡ true → Inline type code) (eqb (value_code type code) 14) (λ _ e. absurd (true≢false (sym e))) (λ n.
    by_test (λ b. b ≡ true → Inline type code) (bad_float type code) (λ _ e. absurd (true≢false (sym e))) (λ f e.
    record { value = v; code_is = n; float = f; timestamp = not-true _ e }))))

module _ (s : List ℕ) (at end type code : ℕ) where
  pub sized : eqb (value_code type code) 14 ≡ false → length_at s at end (value_code type code) ≡ gives (record { body = at; size = inline_length type code })
  unfolding length_at value_code inline_length
  sized =
      by_case (ltb type 2) (λ h. rw h (λ _. refl)) (λ h.
      rw h
      (by_case (eqb type 13)
      (λ t. rw t (by_case (eqb code 1) (λ o. rw o (λ e. absurd (true≢false e))) (λ o. rw o coded)))
      (λ t. rw t coded)))
    where
      coded : eqb code 14 ≡ false → length_at s at end code ≡ gives (record { body = at; size = pick (eqb code 15) 0 code })
      coded e = rw e (by_case (eqb code 15) (λ f. rw f) (λ f. rw f))

-- where no VarUInt is read there is no ordered struct
no_order : (type code n : ℕ) → eqb (value_code type code) 14 ≡ false → empty_ordered type code n ≡ false
unfolding empty_ordered value_code
no_order type code n e =
    by_case (eqb type 13)
    (λ t.
    by_case (eqb code 1)
    (λ o. let z : value_code type code ≡ 14 = rw (eqb-true type 13 t, eqb-true code 1 o) in absurd (eqb-false (value_code type code) 14 e z))
    (λ o. rw (t, o)))
    (λ t. rw t)

pub inline_read : (s : List ℕ) (at end : ℕ) (d : TypeDescriptor) → has_inline_length d.type_code d.length_code ≡ true → value_length s at end d ≡ gives (record { body = at + 1; size = inline_length d.type_code d.length_code })
unfolding value_length length_tests
inline_read s at end d h =
    let type = d.type_code in
    let code = d.length_code in
    let t : Inline type code = inline_means type code h in
    rw
    (sized s (at + 1) end type code t.code_is, t.float, t.timestamp, no_order type code (inline_length type code) t.code_is)

-- above 15 there is none
pub high_type : (type code : ℕ) → 15 < type → false ≡ has_inline_length type code
unfolding has_inline_length kind_of
high_type type code h = rw (lt-ltb 14 type (omega arith)) (by_case (ltb 15 code) (λ e. rw e) (λ e. rw e))

pub high_code : (type code : ℕ) → 15 < code → false ≡ has_inline_length type code
unfolding has_inline_length
high_code type code h = rw (lt-ltb 15 code h)

-- ---- a VarUInt says the length

-- with length code 14, by type: a number has the bit of each type that reads one
pub bit_length_field : (type : ℕ) → type < 16 → eqb (0x3FEC / 2 ^ type % 2) 1 ≡ has_length_field type 14
unfolding has_length_field value_code bad_float
bit_length_field type t =
    same_is _ _ (holds_at 16 (λ x. same (eqb (0x3FEC / 2 ^ x % 2) 1) (has_length_field x 14)) tt type t)

-- and else in an ordered struct alone
pub ordered_length_field : (type code : ℕ) → eqb code 14 ≡ false → is_ordered type code ≡ has_length_field type code
unfolding is_ordered has_length_field value_code bad_float
ordered_length_field type code n =
    by_case (ltb type 2)
    (λ l.
    let o : eqb type 13 ≡ false = ne_eqb type 13 (omega (arith, ltb-true type 2 l)) in
    rw (l, o))
    (λ l.
    rw l
    (by_case (eqb type 13)
    (λ o. rw (o, eqb-true type 13 o) (by_case (eqb code 1) (λ e. rw e) (λ e. rw (e, n))))
    (λ o. rw (o, n))))

pub high_length_field : (type code : ℕ) → 15 < type → has_length_field type code ≡ false
unfolding has_length_field
high_length_field type code h =
    let l : ltb 13 type ≡ true = lt-ltb 13 type (omega arith) in
    by_case (eqb (value_code type code) 14) (λ e. rw (e, l)) (λ e. rw e)
