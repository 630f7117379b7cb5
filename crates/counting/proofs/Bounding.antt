-- A bounded step: one pad more behind each pad, kind 4 where the bound is met before a pad's descriptor, and the step's answer elsewhere.
-- Assumes nothing.
use Prim.Native.Nat.{ℕ, zero, suc, ◌+◌, ◌≤◌, ◌<◌}
use native.Mathlib.Omega.{arith}
use borrow.Author.Tests.{lt-ltb, le-ltb, ltb-true, ltb-false, ne_eqb}
use mathlib.Core.Path.{◌≡◌, refl, ◌∙◌, sym, ap}
use mathlib.Core.Bool.{Bool, true, false, true≢false}
use mathlib.Core.List.{List, [], ◌∷◌}
use lib.ListN.{length, get_or}
use lib.Dec.{ltb}
use Rattle.numbers.specs.Outcome.{Outcome, gives, refuses, pick, and_then, outside_of}
use Rattle.numbers.specs.Answers.{Unsigned}
use Rattle.numbers.proofs.Outcomes.{by_case, by_test}
use Rattle.framing.specs.Limits.{out_of_range}
use Rattle.stepping.specs.Items.{Item, finish, Pad}
use Rattle.stepping.specs.Answers.{skip, tile_at, Found, found}
use Rattle.stepping.specs.Names.{name_at}
use Rattle.stepping.specs.Runs.{cursor}
use Rattle.stepping.specs.Private.Tiles.{handed}
use Rattle.stepping.specs.declared.cursor.Cursor.{Cursor}
use Rattle.stepping.specs.declared.cursor.Rules.{Rules}
use Rattle.counting.specs.Pads.{begins_pad}
use Rattle.counting.specs.Counted.{Counted, unbegun, unread, counted}
use Rattle.counting.specs.Bounded.{Bounded, reached, more, behind_pads, pad_behind, pad_next, stops_among, bounded_in, bounded}
use Rattle.counting.proofs.PadTiles.{pad_named}
use Rattle.counting.proofs.Finding.{found_end, found_pad, found_stop}
use Rattle.counting.proofs.Counting.{adding, adding_none, adding_added, counted_unranged, counted_outside, counted_end, counted_pad, counted_stop, behind_begun, behind_ended}

-- n pads more
abbrev pub add_pads : ℕ → Bounded → Bounded
add_pads n (reached c) = reached (adding n c)
add_pads n (more m p) = more (n + m) p

pub add_none : (r : Bounded) → add_pads 0 r ≡ r
add_none (reached c) = ap reached (adding_none c)
add_none (more m p) = let e : 0 + m ≡ m = omega arith in rw e

pub add_added : {m : ℕ} (n k : ℕ) (r : Bounded) → n + k ≡ m → add_pads n (add_pads k r) ≡ add_pads m r
add_added n k (reached c) e = ap reached (adding_added n k c e)
add_added {m} n k (more l p) e = let q : n + (k + l) ≡ m + l = omega arith in rw q

add_picked : (t : Bool) (n : ℕ) (x y : Bounded) → add_pads n (pick t x y) ≡ pick t (add_pads n x) (add_pads n y)
add_picked true n x y = refl
add_picked false n x y = refl

ltb_suc : (a b : ℕ) → ltb (suc a) (suc b) ≡ ltb a b
ltb_suc a b =
    by_case (ltb a b) (λ t. lt-ltb (suc a) (suc b) (omega (arith, ltb-true a b t)) ∙ sym t) (λ t. le-ltb (suc a) (suc b) (omega (arith, ltb-false a b t)) ∙ sym t)

-- ---- a pad's descriptor next

module _ (rules : Rules) (s : List ℕ) (at hi : ℕ) where
  pub next_named : at < hi → (u : Unsigned) → name_at rules s at hi ≡ gives u → pad_next rules s at hi ≡ begins_pad (get_or s u.next 0)
  unfolding pad_next
  next_named l u name = rw (lt-ltb at hi l, name)

  pub next_refused : {n p : ℕ} → name_at rules s at hi ≡ refuses n p → pad_next rules s at hi ≡ false
  unfolding pad_next
  next_refused {n} {p} name = by_test (λ (b : Bool). b ≡ false) (ltb at hi) (λ _. ap (pad_behind s) name) (λ _. refl)

  -- before a pad that is framed
  pub next_pad : (limit : ℕ) → at < hi → {b e : ℕ} → tile_at limit rules s at hi ≡ gives (skip b e) → pad_next rules s at hi ≡ true
  next_pad limit l h = let w = pad_named limit rules s at hi h in next_named l w.0 w.1 ∙ w.2

pub next_end : (rules : Rules) (s : List ℕ) (at hi : ℕ) → hi ≤ at → pad_next rules s at hi ≡ false
unfolding pad_next
next_end rules s at hi h = rw (le-ltb at hi h)

-- ---- the answer, by the pads that a step passes

module _ (rules : Rules) (s : List ℕ) where
  -- of a step that passes these pads and counts to r
  bound_by : ℕ → ℕ → ℕ → List Pad → Counted → Bounded
  bound_by k at hi ps r = pick (stops_among k rules s (cursor at hi) ps) (more k (behind_pads k at ps)) (reached r)

  by_pads : (limit k at hi : ℕ) {f : Found} {r : Counted} → found limit rules s (cursor at hi) ≡ f → counted limit rules s (cursor at hi) ≡ r → bounded_in limit k rules s (cursor at hi) ≡ bound_by k at hi f.pads r
  unfolding bounded_in bound_by
  by_pads limit k at hi p q = rw (p, q)

  -- no pad is passed
  by_none : (k at hi : ℕ) (r : Counted) → (k ≡ 0 → pad_next rules s at hi ≡ false) → bound_by k at hi [] r ≡ reached r
  unfolding bound_by stops_among
  by_none zero at hi r n = rw (n refl)
  by_none (suc k) at hi r n = rw (lt-ltb 0 (suc k) (omega arith))

  -- one pad more in front
  one_pad : (k at hi : ℕ) (p : Pad) (ps : List Pad) (r : Counted) → bound_by (suc k) at hi (p ∷ ps) (adding 1 r) ≡ add_pads 1 (bound_by k p.end hi ps r)
  unfolding bound_by stops_among
  one_pad k at hi p ps r =
      let e : suc k ≡ 1 + k = omega arith in
      ap (λ (t : Bool). pick (pick t false (pad_next rules s (behind_pads k p.end ps) hi)) (more (suc k) (behind_pads k p.end ps)) (reached (adding 1 r))) (ltb_suc (length ps) k)
      ∙ ap (λ (n : ℕ). pick (pick (ltb (length ps) k) false (pad_next rules s (behind_pads k p.end ps) hi)) (more n (behind_pads k p.end ps)) (reached (adding 1 r))) e
      ∙ sym (add_picked (pick (ltb (length ps) k) false (pad_next rules s (behind_pads k p.end ps) hi)) 1 (more k (behind_pads k p.end ps)) (reached r))

-- ---- the answer, by what stands there

module _ (limit : ℕ) (rules : Rules) (s : List ℕ) (g : out_of_range limit ≡ false) where
  module _ (at hi : ℕ) (l : at < hi) (m : hi ≤ length s) where
    pub bound_pad : (k : ℕ) {b e : ℕ} → tile_at limit rules s at hi ≡ gives (skip b e) → bounded_in limit (suc k) rules s (cursor at hi) ≡ add_pads 1 (bounded_in limit k rules s (cursor e hi))
    bound_pad k {b} {e} h =
        by_pads rules s limit (suc k) at hi (found_pad limit rules s g at hi l m h) (counted_pad limit rules s g at hi l m h)
        ∙ one_pad rules s k at hi (record { start = at; body = b; end = e }) (found limit rules s (cursor e hi)).pads (counted limit rules s (cursor e hi))
        ∙ ap (add_pads 1) (sym (by_pads rules s limit k e hi refl refl))

    -- the bound is met before a pad's descriptor
    pub bound_more : pad_next rules s at hi ≡ true → bounded_in limit 0 rules s (cursor at hi) ≡ more 0 at
    unfolding bounded_in stops_among
    bound_more n = rw (le-ltb (length (found limit rules s (cursor at hi)).pads) 0 (omega arith), n)

    -- no pad stands there, or one that is refused where the bound is not met
    pub bound_stop : (k : ℕ) (o : Outcome Item) → and_then o handed ≡ tile_at limit rules s at hi → (k ≡ 0 → pad_next rules s at hi ≡ false) → bounded_in limit k rules s (cursor at hi) ≡ reached (record { answer = o; pads = 0; names = 1 })
    bound_stop k o h n =
        by_pads rules s limit k at hi (found_stop limit rules s g at hi l m o h) (counted_stop limit rules s g at hi l m o h)
        ∙ by_none rules s k at hi (record { answer = o; pads = 0; names = 1 }) n

  pub bound_end : (k hi : ℕ) → hi ≤ length s → bounded_in limit k rules s (cursor hi hi) ≡ reached (record { answer = gives (finish hi); pads = 0; names = 0 })
  bound_end k hi m =
      by_pads rules s limit k hi hi (found_end limit rules s g hi m) (counted_end limit rules s g hi m)
      ∙ by_none rules s k hi hi (record { answer = gives (finish hi); pads = 0; names = 0 }) (λ _. next_end rules s hi hi (omega arith))

-- ---- the tests before

module _ (limit : ℕ) (rules : Rules) (s : List ℕ) where
  pub bounded_unranged : (k : ℕ) (c : Cursor) → out_of_range limit ≡ true → bounded limit k rules s c ≡ reached (unbegun 68)
  unfolding bounded
  bounded_unranged k c g = rw g

  pub bounded_outside : (k : ℕ) (c : Cursor) → out_of_range limit ≡ false → outside_of s c.at c.end ≡ true → bounded limit k rules s c ≡ reached (unbegun 50)
  unfolding bounded
  bounded_outside k c g o = rw (g, o)

  pub bounded_none : (k : ℕ) (c : Cursor) → out_of_range limit ≡ false → outside_of s c.at c.end ≡ false → k ≡ 0 → bounded limit k rules s c ≡ reached (unbegun 67)
  unfolding bounded
  bounded_none k c g o z = rw (g, o, z)

  pub bounded-in : (k : ℕ) (c : Cursor) → out_of_range limit ≡ false → outside_of s c.at c.end ≡ false → (k ≡ 0 → ⊥) → bounded limit k rules s c ≡ bounded_in limit k rules s c
  unfolding bounded
  bounded-in k c g o n = rw (g, o, ne_eqb k 0 n)

  -- refused before anything is read, the bounded step is the step
  pub bounded_unread : (k : ℕ) (c : Cursor) → unread limit s c ≡ true → bounded limit k rules s c ≡ reached (counted limit rules s c)
  bounded_unread k c =
      by_test (λ (t : Bool). t ≡ true → bounded limit k rules s c ≡ reached (counted limit rules s c)) (out_of_range limit)
      (λ g _. bounded_unranged k c g ∙ ap reached (sym (counted_unranged limit rules s c g)))
      (λ g o. bounded_outside k c g o ∙ ap reached (sym (counted_outside limit rules s c g o)))

-- read, the limit is one and the part is one of the slice
pub is_read : (limit : ℕ) (s : List ℕ) (c : Cursor) → unread limit s c ≡ false → (out_of_range limit ≡ false) × (outside_of s c.at c.end ≡ false)
is_read limit s c =
    by_test (λ (t : Bool). t ≡ false → (out_of_range limit ≡ false) × (outside_of s c.at c.end ≡ false)) (out_of_range limit)
    (λ _ e. absurd (true≢false e))
    (λ g o. (g, o))

-- ---- behind n pads, with the counts so far

pub reach_begun : (n names : ℕ) (o : Outcome Item) {b w : Bounded} → b ≡ reached (record { answer = o; pads = 0; names = 1 }) → names ≡ n → add_pads n b ≡ w → reached (record { answer = o; pads = n; names = names + 1 }) ≡ w
reach_begun n names o e q h = ap reached (behind_begun n names o refl q refl) ∙ ap (add_pads n) (sym e) ∙ h

pub reach_ended : (n names : ℕ) (o : Outcome Item) {b w : Bounded} → b ≡ reached (record { answer = o; pads = 0; names = 0 }) → names ≡ n → add_pads n b ≡ w → reached (record { answer = o; pads = n; names = names }) ≡ w
reach_ended n names o e q h = ap reached (behind_ended n names o refl q refl) ∙ ap (add_pads n) (sym e) ∙ h

pub reach_more : (n at : ℕ) {b w : Bounded} → b ≡ more 0 at → add_pads n b ≡ w → more n at ≡ w
reach_more n at e h = let z : n ≡ n + 0 = omega arith in ap (λ (k : ℕ). more k at) z ∙ ap (add_pads n) (sym e) ∙ h
