-- Repeating the bounded step reaches what the step gives: each answer of kind 4 takes the largest number of pads off those that are left.
-- Assumes nothing.
use Prim.Native.Nat.{ℕ, zero, suc, ◌+◌, ◌-◌, ◌*◌, ◌/◌, ◌≤◌, ◌<◌}
use native.Mathlib.Omega.{arith}
use native.Mathlib.Nat.{zero-mul, suc-mul, mod-lt, div-add-mod', zero-div}
use mathlib.Core.Path.{◌≡◌, refl, ◌∙◌, sym, ap, subst}
use mathlib.Core.Bool.{true, false}
use mathlib.Core.List.{List}
use lib.ListN.{length}
use Rattle.numbers.specs.Outcome.{refuses}
use Rattle.numbers.proofs.Outcomes.{by_case, inside, inside_order, inside_end}
use Rattle.framing.specs.Limits.{out_of_range}
use Rattle.stepping.specs.Answers.{stop, skip_pads, found, after, step_of}
use Rattle.stepping.specs.Runs.{cursor}
use Rattle.stepping.specs.declared.cursor.Cursor.{Cursor}
use Rattle.stepping.specs.declared.cursor.Rules.{Rules}
use Rattle.stepping.proofs.PadSkipping.{skipping}
use Rattle.counting.specs.Counted.{Counted, unread, counted}
use Rattle.counting.specs.Bounded.{reached, behind_pads, pad_next, bounded_in, bounded, bounded_after, bounded_step_of}
use Rattle.counting.specs.BoundedRuns.{Repeats, none, again, pads_met, repetitions, Reaches}
use Rattle.counting.specs.Theorems.{Repeating}
use Rattle.counting.proofs.Finding.{found_unread}
use Rattle.counting.proofs.Counting.{adding, adding_none, adding_added}
use Rattle.counting.proofs.Bounding.{bounded-in, bounded_unread, is_read}
use Rattle.counting.proofs.Passing.{Passes, pads_pass, passes_order, passes_counted, passes_met, at_most_one, met_most, met_few, unmet, met}

-- with a largest number of the part's length it is the step
pub unbounded : (limit : ℕ) (rules : Rules) (s : List ℕ) (hi k at : ℕ) → (k ≡ 0 → ⊥) → hi - at ≤ k → bounded limit k rules s (cursor at hi) ≡ reached (counted limit rules s (cursor at hi))
unbounded limit rules s hi k at n z =
    by_case (unread limit s (cursor at hi)) (bounded_unread limit rules s k (cursor at hi)) (λ e.
    let r = is_read limit s (cursor at hi) e in
    let l = inside_order s at hi r.1 in
    let m = inside_end s at hi r.1 in
    let w = skipping limit rules s hi (hi - at) at l (omega arith) in
    bounded-in limit rules s k (cursor at hi) r.0 r.1 n ∙ unmet limit rules s hi r.0 m k w (omega (arith, met_few limit rules s hi r.0 m w)))

-- from `at` n calls answer kind 4, and the next one answers what the step does there, which has the pads left that these calls did not pass
record Arrives (limit most : ℕ) (rules : Rules) (s : List ℕ) (hi at n : ℕ) : Type 0 where
  last : ℕ
  repeats : Repeats limit most rules s (cursor at hi) n (cursor last hi)
  further : at ≤ last
  answer : bounded limit most rules s (cursor last hi) ≡ reached (counted limit rules s (cursor last hi))
  counts : counted limit rules s (cursor at hi) ≡ adding (n * most) (counted limit rules s (cursor last hi))

module _ (limit most : ℕ) (some : 0 < most) (rules : Rules) (s : List ℕ) (hi : ℕ) (g : out_of_range limit ≡ false) (m : hi ≤ length s) where
  inside_bound : (at : ℕ) → at ≤ hi → bounded limit most rules s (cursor at hi) ≡ bounded_in limit most rules s (cursor at hi)
  inside_bound at l = bounded-in limit rules s most (cursor at hi) g (inside s at hi l m) (λ e. omega arith)

  arrives : (n at : ℕ) → at ≤ hi → n * most ≤ pads_met limit rules s (cursor at hi) - 1 → pads_met limit rules s (cursor at hi) - 1 < n * most + most → Arrives limit most rules s hi at n
  arrives zero at l low high =
      let w = skipping limit rules s hi (hi - at) at l (omega arith) in
      record {
        last = at;
        repeats = none;
        further = omega arith;
        answer = inside_bound at l ∙ unmet limit rules s hi g m most w (omega (arith, zero-mul most));
        counts = sym (ap (λ (k : ℕ). adding k (counted limit rules s (cursor at hi))) (zero-mul most) ∙ adding_none (counted limit rules s (cursor at hi)));
      }
  arrives (suc n) at l low high =
      let w = skipping limit rules s hi (hi - at) at l (omega arith) in
      let e = suc-mul n most in
      let h : most < pads_met limit rules s (cursor at hi) = omega arith in
      let d = pads_pass limit rules s hi w most (omega (arith, met_most limit rules s hi g m l w)) in
      onward (behind_pads most at (skip_pads limit (hi - at) rules s hi at).pads) d h e (arrives n)
    where
      onward : (z : ℕ) → Passes limit rules s hi most at z → most < pads_met limit rules s (cursor at hi) → suc n * most ≡ n * most + most → ((x : ℕ) → x ≤ hi → n * most ≤ pads_met limit rules s (cursor x hi) - 1 → pads_met limit rules s (cursor x hi) - 1 < n * most + most → Arrives limit most rules s hi x n) → Arrives limit most rules s hi at (suc n)
      onward z d h e go =
          let o = passes_order limit rules s hi d l in
          let p = passes_met limit rules s hi g m d in
          let r = go z o.1 (omega arith) (omega arith) in
          let q : most + n * most ≡ suc n * most = omega arith in
          record {
            last = r.last;
            repeats = again (inside_bound at l ∙ met limit rules s hi g m most z d (skipping limit rules s hi (hi - z) z o.1 (omega arith)) h) r.repeats;
            further = omega (arith, r.further);
            answer = r.answer;
            counts =
                passes_counted limit rules s hi g m d
                ∙ ap (adding most) r.counts
                ∙ adding_added most (n * most) (counted limit rules s (cursor r.last hi)) refl
                ∙ ap (λ (k : ℕ). adding k (counted limit rules s (cursor r.last hi))) q;
          }

-- of what arrives, in the words of the statement
module _ (limit most : ℕ) (rules : Rules) (s : List ℕ) (c : Cursor) where
  reaches : Arrives limit most rules s c.end c.at (repetitions limit most rules s c) → Reaches limit most rules s c
  unfolding step_of counted bounded_step_of
  reaches r =
      let last : Cursor = cursor r.last c.end in
      let same : (counted limit rules s last).answer ≡ (step_of limit rules s c).answer = sym (ap (λ (x : Counted). x.answer) r.counts) in
      let left : (bounded_step_of limit most rules s last).next ≡ after last (step_of limit rules s c).answer = ap (bounded_after last) r.answer ∙ ap (after last) same in
      record {
        last = last;
        repeats = r.repeats;
        further = (r.further, refl);
        answer = r.answer;
        same = same;
        passed = sym (ap (λ (x : Counted). x.pads) r.counts);
        given = λ i e. left ∙ ap (after last) e ∙ sym (ap (after c) e);
        refused = λ n p e. left ∙ ap (after last) e;
      }

-- what is refused before anything is read is refused at once
unread_none : (limit most : ℕ) (rules : Rules) (s : List ℕ) (c : Cursor) → unread limit s c ≡ true → repetitions limit most rules s c ≡ 0
unfolding pads_met
unread_none limit most rules s c o =
    let n : ℕ = (found_unread limit rules s c o).0 in
    let f : found limit rules s c ≡ stop (refuses n 0) = (found_unread limit rules s c o).1 in
    let e : pads_met limit rules s c - 1 ≡ 0 = rw f (omega (arith, at_most_one (pad_next rules s c.at c.end))) in
    ap (λ (n : ℕ). n / most) e ∙ zero-div most

pub repeating : Repeating
repeating limit most rules s c some =
    reaches limit most rules s c
    (by_case (unread limit s c) outside
    (λ e.
    let r = is_read limit s c e in
    let x : ℕ = pads_met limit rules s c - 1 in
    let d = div-add-mod' x most in
    let b = mod-lt x some in
    arrives limit most some rules s c.end r.0 (inside_end s c.at c.end r.1) (x / most) c.at (inside_order s c.at c.end r.1) (omega arith) (omega arith)))
  where
    outside : unread limit s c ≡ true → Arrives limit most rules s c.end c.at (repetitions limit most rules s c)
    outside o =
        let z = unread_none limit most rules s c o in
        record {
          last = c.at;
          repeats = subst (λ (n : ℕ). Repeats limit most rules s c n c) (sym z) none;
          further = omega arith;
          answer = bounded_unread limit rules s most c o;
          counts = sym (ap (λ (k : ℕ). adding (k * most) (counted limit rules s c)) z ∙ ap (λ (k : ℕ). adding k (counted limit rules s c)) (zero-mul most) ∙ adding_none (counted limit rules s c));
        }
