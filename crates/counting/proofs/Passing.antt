-- A step behind n of its pads: what it finds, counts and meets from there on is what is left of it.
-- Assumes nothing.
use Prim.Native.Nat.{ℕ, zero, suc, ◌+◌, ◌-◌, ◌≤◌, ◌<◌}
use native.Mathlib.Omega.{arith}
use mathlib.Core.Path.{◌≡◌, refl, ◌∙◌, sym, ap}
use mathlib.Core.Bool.{Bool, true, false, true≢false}
use mathlib.Core.List.{List}
use lib.ListN.{length}
use Rattle.numbers.specs.Outcome.{Outcome, gives, refuses, pick, and_then}
use Rattle.framing.specs.Limits.{out_of_range}
use Rattle.stepping.specs.Items.{Item}
use Rattle.stepping.specs.Answers.{skip, tile_at, Found, found}
use Rattle.stepping.specs.Runs.{cursor}
use Rattle.stepping.specs.Private.Tiles.{handed}
use Rattle.stepping.specs.declared.cursor.Rules.{Rules}
use Rattle.stepping.proofs.Places.{pad_ends}
use Rattle.stepping.proofs.PadSkipping.{Skipping, at-end, at_pad, at_item, at_refusal, of_skipping}
use Rattle.counting.specs.Counted.{counted}
use Rattle.counting.specs.Bounded.{reached, more, behind_pads, pad_next, bounded_in}
use Rattle.counting.specs.BoundedRuns.{pads_met}
use Rattle.counting.proofs.Finding.{found_end, found_pad, found_stop}
use Rattle.counting.proofs.Counting.{adding, adding_none, adding_added, counted_pad, counted_end, counted_stop}
use Rattle.counting.proofs.Bounding.{add_pads, add_none, add_added, next_end, next_pad, bound_pad, bound_more, bound_stop, bound_end}

-- n pads lead from one place to another
pub data Passes (limit : ℕ) (rules : Rules) (s : List ℕ) (hi : ℕ) : ℕ → ℕ → ℕ → Type 0 where
  here : {at : ℕ} → Passes limit rules s hi 0 at at
  past : {n at b e z : ℕ} → at < hi → tile_at limit rules s at hi ≡ gives (skip b e) → Passes limit rules s hi n e z → Passes limit rules s hi (suc n) at z

-- a count of one or none
one-if : (t : Bool) → t ≡ false → pick {A = ℕ} t 1 0 ≡ 0
one-if true e = absurd (true≢false e)
one-if false e = refl

some_if : (t : Bool) → 0 < pick {A = ℕ} t 1 0 → t ≡ true
some_if true e = refl
some_if false e = absurd (omega arith)

none_if : (t : Bool) → pick {A = ℕ} t 1 0 ≤ 0 → t ≡ false
none_if true e = absurd (omega arith)
none_if false e = refl

pub at_most_one : (t : Bool) → pick {A = ℕ} t 1 0 ≤ 1
at_most_one true = omega arith
at_most_one false = omega arith

module _ (limit : ℕ) (rules : Rules) (s : List ℕ) (hi : ℕ) where
  -- the first n pads of a step are such pads
  pub pads_pass : {at : ℕ} {f : Found} → Skipping limit rules s hi at f → (n : ℕ) → n ≤ length f.pads → Passes limit rules s hi n at (behind_pads n at f.pads)
  pads_pass d zero h = here
  pads_pass at-end (suc n) h = absurd (omega arith)
  pads_pass (at_pad l t d) (suc n) h = past l t (pads_pass d n (omega arith))
  pads_pass (at_item l t) (suc n) h = absurd (omega arith)
  pads_pass (at_refusal l t) (suc n) h = absurd (omega arith)

  pub passes_order : {n at z : ℕ} → Passes limit rules s hi n at z → at ≤ hi → (at + n ≤ z) × (z ≤ hi)
  passes_order here l = (omega arith, l)
  passes_order (past l t d) h =
      let p = pad_ends limit rules s t in
      let o = passes_order d p.2 in
      (omega arith, o.1)

  module _ (g : out_of_range limit ≡ false) (m : hi ≤ length s) where
    pub passes_counted : {n at z : ℕ} → Passes limit rules s hi n at z → counted limit rules s (cursor at hi) ≡ adding n (counted limit rules s (cursor z hi))
    passes_counted (here {at}) = sym (adding_none (counted limit rules s (cursor at hi)))
    passes_counted {z = z} (past {n} {at} l t d) =
        counted_pad limit rules s g at hi l m t ∙ ap (adding 1) (passes_counted d) ∙ adding_added 1 n (counted limit rules s (cursor z hi)) (omega arith)

    pub passes_bounded : {n at z : ℕ} (k : ℕ) → Passes limit rules s hi n at z → bounded_in limit (n + k) rules s (cursor at hi) ≡ add_pads n (bounded_in limit k rules s (cursor z hi))
    passes_bounded k (here {at}) =
        let e : 0 + k ≡ k = omega arith in
        ap (λ (j : ℕ). bounded_in limit j rules s (cursor at hi)) e ∙ sym (add_none (bounded_in limit k rules s (cursor at hi)))
    passes_bounded {z = z} k (past {n} {at} l t d) =
        let e : suc n + k ≡ suc (n + k) = omega arith in
        ap (λ (j : ℕ). bounded_in limit j rules s (cursor at hi)) e
        ∙ bound_pad limit rules s g at hi l m (n + k) t
        ∙ ap (add_pads 1) (passes_bounded k d)
        ∙ add_added 1 n (bounded_in limit k rules s (cursor z hi)) (omega arith)

    -- ---- the pads' descriptors that a step meets

    met_by : (at : ℕ) {f : Found} → found limit rules s (cursor at hi) ≡ f → pads_met limit rules s (cursor at hi) ≡ length f.pads + pick (pad_next rules s (behind_pads (length f.pads) at f.pads) hi) 1 0
    unfolding pads_met
    met_by at e = rw e

    -- at most one more than its pads
    pub met_most : {at : ℕ} {f : Found} → at ≤ hi → Skipping limit rules s hi at f → pads_met limit rules s (cursor at hi) ≤ length f.pads + 1
    met_most {at} {f} l w =
        omega (arith, met_by at (sym (of_skipping limit rules s hi g l m w)), at_most_one (pad_next rules s (behind_pads (length f.pads) at f.pads) hi))

    pub met_pad : {at b e : ℕ} → at < hi → tile_at limit rules s at hi ≡ gives (skip b e) → pads_met limit rules s (cursor at hi) ≡ suc (pads_met limit rules s (cursor e hi))
    unfolding pads_met
    met_pad {at} {b} {e} l t =
        let n : ℕ = length (found limit rules s (cursor e hi)).pads in
        let x : ℕ = pick (pad_next rules s (behind_pads n e (found limit rules s (cursor e hi)).pads) hi) 1 0 in
        let q : suc n + x ≡ suc (n + x) = omega arith in
        met_by at (found_pad limit rules s g at hi l m t) ∙ q

    pub met_stop : {at : ℕ} (o : Outcome Item) → at < hi → and_then o handed ≡ tile_at limit rules s at hi → pads_met limit rules s (cursor at hi) ≡ pick (pad_next rules s at hi) 1 0
    met_stop {at} o l h = met_by at (found_stop limit rules s g at hi l m o h) ∙ omega arith

    pub met_end : pads_met limit rules s (cursor hi hi) ≡ 0
    met_end = met_by hi (found_end limit rules s g hi m) ∙ omega (arith, one-if (pad_next rules s hi hi) (next_end rules s hi hi (omega arith)))

    pub passes_met : {n at z : ℕ} → Passes limit rules s hi n at z → pads_met limit rules s (cursor at hi) ≡ n + pads_met limit rules s (cursor z hi)
    passes_met here = omega arith
    passes_met (past l t d) = omega (arith, met_pad l t, passes_met d)

    -- no more than the bytes that are left
    pub met_few : {at : ℕ} {f : Found} → Skipping limit rules s hi at f → pads_met limit rules s (cursor at hi) ≤ hi - at
    met_few at-end = omega (arith, met_end)
    met_few (at_pad l t d) = let p = pad_ends limit rules s t in omega (arith, met_pad l t, met_few d)
    met_few (at_item {at} {i} l t) = omega (arith, met_stop (gives i) l (sym t), at_most_one (pad_next rules s at hi))
    met_few (at_refusal {at} {n} {p} l t) = omega (arith, met_stop (refuses n p) l (sym t), at_most_one (pad_next rules s at hi))

    -- where there is one, it comes next
    pub met_next : {at : ℕ} {f : Found} → Skipping limit rules s hi at f → 0 < pads_met limit rules s (cursor at hi) → (at < hi) × (pad_next rules s at hi ≡ true)
    met_next at-end h = absurd (omega (arith, met_end))
    met_next (at_pad {at} l t d) h = (l, next_pad rules s at hi limit l t)
    met_next (at_item {at} {i} l t) h = (l, some_if (pad_next rules s at hi) (omega (arith, met_stop (gives i) l (sym t))))
    met_next (at_refusal {at} {n} {p} l t) h = (l, some_if (pad_next rules s at hi) (omega (arith, met_stop (refuses n p) l (sym t))))

    -- a bound that is not met
    pub unmet : {at : ℕ} {f : Found} (k : ℕ) → Skipping limit rules s hi at f → pads_met limit rules s (cursor at hi) ≤ k → bounded_in limit k rules s (cursor at hi) ≡ reached (counted limit rules s (cursor at hi))
    unmet k at-end h = bound_end limit rules s g k hi m ∙ ap reached (sym (counted_end limit rules s g hi m))
    unmet zero (at_pad l t d) h = absurd (omega (arith, met_pad l t))
    unmet (suc k) (at_pad {at} l t d) h =
        bound_pad limit rules s g at hi l m k t ∙ ap (add_pads 1) (unmet k d (omega (arith, met_pad l t))) ∙ ap reached (sym (counted_pad limit rules s g at hi l m t))
    unmet k (at_item {at} {i} l t) h =
        bound_stop limit rules s g at hi l m k (gives i) (sym t) (λ e. none_if (pad_next rules s at hi) (omega (arith, met_stop (gives i) l (sym t))))
        ∙ ap reached (sym (counted_stop limit rules s g at hi l m (gives i) (sym t)))
    unmet k (at_refusal {at} {n} {p} l t) h =
        bound_stop limit rules s g at hi l m k (refuses n p) (sym t) (λ e. none_if (pad_next rules s at hi) (omega (arith, met_stop (refuses n p) l (sym t))))
        ∙ ap reached (sym (counted_stop limit rules s g at hi l m (refuses n p) (sym t)))

    -- a bound that is met
    pub met : {at : ℕ} {f : Found} (k z : ℕ) → Passes limit rules s hi k at z → Skipping limit rules s hi z f → k < pads_met limit rules s (cursor at hi) → bounded_in limit k rules s (cursor at hi) ≡ more k z
    met {at} k z d w h =
        let e : k ≡ k + 0 = omega arith in
        let x = met_next w (omega (arith, passes_met d)) in
        ap (λ (j : ℕ). bounded_in limit j rules s (cursor at hi)) e
        ∙ passes_bounded 0 d
        ∙ ap (add_pads k) (bound_more limit rules s g z hi x.0 m x.1)
        ∙ ap (λ (j : ℕ). more j z) (sym e)
