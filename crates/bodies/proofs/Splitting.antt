-- The theorems of specs/Decimal.antt: the exponent is the VarInt's and the coefficient the Int's, and both readings depend on their bytes alone, wherever these
-- stand.
-- Assumes nothing.
use Prim.Native.Nat.{ℕ, zero, suc, ◌+◌, ◌-◌, ◌≤◌, ◌<◌}
use native.Mathlib.Omega.{arith}
use mathlib.Core.Path.{◌≡◌, refl, ◌∙◌, sym, ap, subst}
use mathlib.Core.Bool.{Bool, true, false}
use mathlib.Core.List.{List}
use lib.ListN.{length, get_or}
use lib.Dec.{eqb, ltb}
use lib.IntN.{pos}
use borrow.Author.Tests.{eq-eqb, ne_eqb, eqb-true, eqb-false, ltb-false}
use Rattle.numbers.specs.Format.{NumberAt, var_int_negative, var_int_magnitude}
use Rattle.numbers.specs.Outcome.{Outcome, gives, and_then, outside_of}
use Rattle.numbers.specs.Bytes.{part}
use Rattle.numbers.specs.Answers.{Signed, signed, var_int, int}
use Rattle.numbers.specs.Meaning.{NumberMeaning, reads, outside as number-outside, cut_short as number_cut, too_long as number-long, IntMeaning}
use Rattle.numbers.proofs.Outcomes.{by_test, by_case, by_refusal, inside, inside_end, outside_cases, within_part}
use Rattle.numbers.proofs.Meaning.{var-int-sound, var-int-complete, var_int_at, var_int_small, ints-sound, ints-complete}
use Rattle.numbers.proofs.Moving.{Moved, given_on, refused_on, moved_then, moved_pick, same_moved, moved_signed, var_int_moved, int_moved}
use Rattle.numbers.specs.declared.var_int.VarInt.{VarInt}
use Rattle.bodies.specs.declared.decimal.Decimal.{Decimal}
use Rattle.bodies.specs.Decimal.{split_read}
use Rattle.bodies.specs.Decimal.{Split, exponent_sign, split_as, with_coefficient, zero_at, decimal, integer, var_int_of, Worth}
use Rattle.bodies.specs.Decimal.{DecimalMeaning, empty, split, outside, cut_short, too_long, DecimalsSound, DecimalsComplete, EmptyDecimals}
use Rattle.bodies.specs.Decimal.{DecimalsLocal, moved_split, moved_decimal, DecimalsMoved}

-- zero's sign is the only one that is left out
sign_worth : (negative : Bool) (m : ℕ) → integer (exponent_sign negative m) m ≡ integer negative m
sign_worth true zero = refl
sign_worth false zero = refl
sign_worth negative (suc m) = rw (ne_eqb (suc m) 0 (omega arith))

-- an Int of length 0
int_none : (s : List ℕ) (end : ℕ) → end ≤ length s → int s end end (end - end) ≡ gives (zero_at end).coefficient
unfolding int
int_none s end k =
    within_part s end end (omega arith) k ∙ (let e : end - end ≡ 0 = omega arith in rw e)

zero_worth : (s : List ℕ) (end : ℕ) → end ≤ length s → Worth s (pos 0) end end (zero_at end)
zero_worth s end k =
    record {
      exponent_is = refl;
      one_zero = λ _. refl;
      small = omega arith;
      coefficient_is = ints-sound s end end (end - end) (zero_at end).coefficient (int_none s end k);
    }

-- behind an exponent the bytes that are left are the coefficient
record Behind (s : List ℕ) (start at end : ℕ) : Type 0 where
  parts : Split
  is : with_coefficient s end (signed s start at) ≡ gives parts
  worth : Worth s (var_int_of (part s start at)) at end parts

behind : (s : List ℕ) (start at end : ℕ) → NumberAt s start end at → at ≤ start + 9 → Behind s start at end
unfolding with_coefficient split_as
behind s start at end n h =
    let i = ints-complete s at end (end - at) (omega (arith, n.ends)) n.within in
    record {
      parts = _;
      is = ap (λ o. and_then o (split_as (signed s start at))) i.1;
      worth = record {
        exponent_is = sign_worth (var_int_negative (part s start at)) (var_int_magnitude (part s start at));
        one_zero = λ z. rw (eq-eqb (var_int_magnitude (part s start at)) 0 z);
        small = var_int_small s start end (signed s start at) (var-int-complete s start end at n h);
        coefficient_is = ints-sound s at end (end - at) i.0 i.1;
      };
    }

-- what is made of the exponent means what the exponent's answer does
after : (s : List ℕ) (start end : ℕ) {o : Outcome Signed} → (start ≡ end → ⊥) → NumberMeaning 4 (signed s start) s start end o → DecimalMeaning s start end (and_then o (with_coefficient s end))
after s start end ne (reads {next} n h) =
    let b = behind s start next end n h in subst (DecimalMeaning s start end) (sym b.is) (split n h b.worth)
after s start end ne (number-outside h) = outside h
after s start end ne (number_cut a b h) = cut_short (omega arith) b h
after s start end ne (number-long n h) = too_long n h

pub decimals-sound : DecimalsSound
unfolding decimal
decimals-sound s start end =
    by_refusal P (outside_of s start end) 50 0 (λ h. outside (outside_cases s start end h)) (λ h.
    by_test P (eqb start end)
    (λ e. empty (eqb-true start end e) (zero_worth s end (inside_end s start end h)))
    (λ e. after s start end (eqb-false start end e) (var-int-sound s start end)))
  where
    P : Outcome Split → Type 0
    P = DecimalMeaning s start end

pub decimals-complete : DecimalsComplete
unfolding decimal
decimals-complete s start at end n h =
    let b = behind s start at end n h in
    (b.parts, within_part s start end (omega (arith, n.begins, n.ends)) n.within ∙ rw (ne_eqb start end (omega (arith, n.begins, n.ends)), var-int-complete s start end at n h) b.is, b.worth)

pub empty-decimals : EmptyDecimals
unfolding decimal
empty-decimals s end k =
    (zero_at end, within_part s end end (omega arith) k ∙ rw (eq-eqb end end refl), zero_worth s end k)

module _ (s t : List ℕ) (n start end : ℕ) (order : start ≤ end) (k : end ≤ length s) (k' : n + end ≤ length t) (same : (i : ℕ) → start ≤ i → i < end → get_or s i 0 ≡ get_or t (n + i) 0) where
  coefficient_moved : (e : Signed) → start ≤ e.next → e.next ≤ end → Moved n (moved_split n) (with_coefficient s end e) (with_coefficient t (n + end) (moved_signed n e))
  unfolding with_coefficient split_as
  coefficient_moved e a b =
      rw difference
      (moved_then (split_as e) (split_as (moved_signed n e)) (int_moved s t n e.next end b k k' (λ i p q. same i (omega arith) q) (end - e.next)) (λ c _. given_on))
    where
      difference : n + end - (n + e.next) ≡ end - e.next
      difference = omega arith

  decimal_moved : Moved n (moved_split n) (decimal s start end) (decimal t (n + start) (n + end))
  unfolding decimal
  decimal_moved =
      rw (inside s start end order k, inside t (n + start) (n + end) (omega arith) k', same_moved n start end)
      (moved_pick (eqb start end) (λ _. given_on) (λ _.
      moved_then (with_coefficient s end) (with_coefficient t (n + end)) (var_int_moved s t n start end order k k' same) (λ e q.
      let r = var_int_at s start end q in
      let x : e.next ≡ r.next = ap (λ (y : Signed). y.next) r.is in
      coefficient_moved e (omega (arith, r.number.begins)) (omega (arith, r.number.ends)))))

is_moved : (n : ℕ) {o o' : Outcome Split} → Moved n (moved_split n) o o' → o' ≡ moved_decimal n o
is_moved n given_on = refl
is_moved n refused_on = refl

pub decimals-moved : DecimalsMoved
decimals-moved s t n start end order k k' same = is_moved n (decimal_moved s t n start end order k k' same)

-- no bytes further on is the same place
none_on : (i : ℕ) → 0 + i ≡ i
none_on i = omega arith

not_moved : {o o' : Outcome Split} → Moved 0 (moved_split 0) o o' → o ≡ o'
not_moved (given_on {a}) = rw (none_on a.coefficient.rest, none_on a.coefficient.end)
not_moved (refused_on {position = p}) = rw (none_on p)

pub decimals-local : DecimalsLocal
unfolding decimal outside_of
decimals-local s t start end k k' same =
    by_case (ltb end start) (λ h. rw h) (λ h.
    not_moved (decimal_moved s t 0 start end (ltb-false end start h) k (omega arith) (λ i a b. same i a b ∙ rw (none_on i)))
    ∙ ap (λ (a : ℕ). decimal t a (0 + end)) (none_on start)
    ∙ ap (decimal t start) (none_on end))

-- the coefficient's bytes after its first one are a part of the slice
pub record RestWithin (s : List ℕ) (d : Split) : Type 0 where
  pub order : d.coefficient.rest ≤ d.coefficient.end
  pub within : d.coefficient.end ≤ length s

rest_of : {s : List ℕ} {at end size : ℕ} {d : Split} → IntMeaning s at end size d.coefficient → RestWithin s d
rest_of i = record { order = i.order; within = omega (arith, i.ends, i.within) }

rest_meant : {s : List ℕ} {start end : ℕ} {o : Outcome Split} {d : Split} → DecimalMeaning s start end o → o ≡ gives d → RestWithin s d
rest_meant {s} {d = d} (empty {d = x} e w) q = let p : x ≡ d = cc in subst (RestWithin s) p (rest_of w.coefficient_is)
rest_meant {s} {d = d} (split {d = x} n h w) q = let p : x ≡ d = cc in subst (RestWithin s) p (rest_of w.coefficient_is)
rest_meant (outside h) q = absurd (let z : ◌≡◌ {A = ℕ} 0 1 = cc in omega arith)
rest_meant (cut_short a b h) q = absurd (let z : ◌≡◌ {A = ℕ} 0 1 = cc in omega arith)
rest_meant (too_long n h) q = absurd (let z : ◌≡◌ {A = ℕ} 0 1 = cc in omega arith)

pub rest_within : (s : List ℕ) (start end : ℕ) (d : Split) → decimal s start end ≡ gives d → RestWithin s d
rest_within s start end d e = rest_meant (decimals-sound s start end) e

-- as the tactics are to have it, of what was read; and where an exponent ends
module _ (s : List ℕ) (start end : ℕ) where
  pub rest_order : (d : Decimal) → decimal s start end ≡ gives (split_read d) → d.coefficient.rest ≤ d.coefficient.end
  rest_order d e = (rest_within s start end _ e).order

  pub rest_ends : (d : Decimal) → decimal s start end ≡ gives (split_read d) → d.coefficient.end ≤ length s
  rest_ends d e = (rest_within s start end _ e).within

  pub exponent_ends : (n : VarInt) → var_int s start end ≡ gives (record { negative = n.negative; magnitude = n.magnitude; next = n.next }) → n.next ≤ end
  exponent_ends n e = let r = var_int_at s start end e in omega (arith, ap (λ (x : Signed). x.next) r.is, r.number.ends)

pub ruleset split_rest = (rest_order, rest_ends)

pub ruleset split_tests = (eq-eqb, ne_eqb, exponent_ends)
