-- A step as a derivation: the pads that it passes, one after the other, and then what it finds. `found` is what the one derivation finds.
-- Assumes nothing.
use Prim.Native.Nat.{ℕ, zero, suc, ◌-◌, ◌≤◌, ◌<◌}
use native.Mathlib.Omega.{arith}
use borrow.Author.Tests.{ltb-true, ltb-false, lt-ltb, le-ltb}
use mathlib.Core.Path.{◌≡◌, refl, ◌∙◌, sym, ap}
use mathlib.Core.Bool.{true, false}
use mathlib.Core.List.{List}
use lib.ListN.{length}
use lib.Dec.{ltb}
use Rattle.numbers.specs.Outcome.{Outcome, gives, refuses, and_then, outside_of}
use Rattle.numbers.proofs.Outcomes.{by_test, inside, inside_order, inside_end}
use Rattle.framing.specs.Limits.{out_of_range}
use Rattle.stepping.specs.Items.{Item, finish}
use Rattle.stepping.specs.Answers.{Tile, skip, hand, tile_at, Found, passing, stop, on_tile, skip_pads, found, step_of}
use Rattle.stepping.specs.Private.Tiles.{handed}
use Rattle.stepping.specs.declared.cursor.Cursor.{Cursor}
use Rattle.stepping.specs.declared.cursor.Rules.{Rules}
use Rattle.stepping.proofs.Places.{pad_ends}

-- from `at`, in the part of s that ends at hi, the step finds f
pub data Skipping (limit : ℕ) (rules : Rules) (s : List ℕ) (hi : ℕ) : ℕ → Found → Type 0 where
  at-end : Skipping limit rules s hi hi (stop (gives (finish hi)))
  at_pad : {at b e : ℕ} {f : Found} → at < hi → tile_at limit rules s at hi ≡ gives (skip b e) → Skipping limit rules s hi e f → Skipping limit rules s hi at (passing (record { start = at; body = b; end = e }) f)
  at_item : {at : ℕ} {i : Item} → at < hi → tile_at limit rules s at hi ≡ gives (hand i) → Skipping limit rules s hi at (stop (gives i))
  at_refusal : {at n p : ℕ} → at < hi → tile_at limit rules s at hi ≡ refuses n p → Skipping limit rules s hi at (stop (refuses n p))

module _ (limit : ℕ) (rules : Rules) (s : List ℕ) (hi : ℕ) where
  pub ended : (at : ℕ) → at ≡ hi → Skipping limit rules s hi at (stop (gives (finish hi)))
  ended at h = rw h at-end

  -- with fuel enough the function's answer has a derivation
  pub skipping : (k at : ℕ) → at ≤ hi → hi - at ≤ k → Skipping limit rules s hi at (skip_pads limit k rules s hi at)
  unfolding skip_pads
  skipping zero at l f = ended at (omega arith)
  skipping (suc k) at l f =
      by_test (Skipping limit rules s hi at) (ltb at hi)
      (λ t. on-tile at (ltb-true at hi t) (λ e a b. skipping k e b (omega arith)) (tile_at limit rules s at hi) refl)
      (λ t. ended at (omega (arith, ltb-false at hi t)))
    where
      on-tile : (at : ℕ) → at < hi → ((e : ℕ) → at < e → e ≤ hi → Skipping limit rules s hi e (skip_pads limit k rules s hi e)) → (o : Outcome Tile) → tile_at limit rules s at hi ≡ o → Skipping limit rules s hi at (on_tile at (skip_pads limit k rules s hi) o)
      on-tile at l go (gives (skip b e)) h = let p = pad_ends limit rules s h in at_pad l h (go e (omega arith) p.2)
      on-tile at l go (gives (hand i)) h = at_item l h
      on-tile at l go (refuses n p) h = at_refusal l h

  -- and a derivation's answer is the function's
  pub skipping_unique : {at : ℕ} {f : Found} → Skipping limit rules s hi at f → (k : ℕ) → hi - at ≤ k → f ≡ skip_pads limit k rules s hi at
  unfolding skip_pads
  skipping_unique at-end zero f = refl
  skipping_unique at-end (suc k) f = simp (le-ltb hi hi (omega arith))
  skipping_unique (at_pad l h d) zero f = absurd (omega arith)
  skipping_unique (at_pad {at} {b} {e} l h d) (suc k) f =
      let p = pad_ends limit rules s h in
      simp (lt-ltb at hi l, h) (ap (passing (record { start = at; body = b; end = e })) (skipping_unique d k (omega arith)))
  skipping_unique (at_item l h) zero f = absurd (omega arith)
  skipping_unique (at_item {at} l h) (suc k) f = simp (lt-ltb at hi l, h)
  skipping_unique (at_refusal l h) zero f = absurd (omega arith)
  skipping_unique (at_refusal {at} l h) (suc k) f = simp (lt-ltb at hi l, h)

  pub of_skipping : {at : ℕ} {f : Found} → out_of_range limit ≡ false → at ≤ hi → hi ≤ length s → Skipping limit rules s hi at f → f ≡ found limit rules s (record { at = at; end = hi })
  unfolding found
  of_skipping {at} g l m d = simp (g, inside s at hi l m) (skipping_unique d (hi - at) (omega arith))

-- what a step finds: 68 for a limit that is none, 50 for a part that is none, or what a derivation says
pub data Finds (limit : ℕ) (rules : Rules) (s : List ℕ) (c : Cursor) : Found → Type 0 where
  unranged : out_of_range limit ≡ true → Finds limit rules s c (stop (refuses 68 0))
  unfit : out_of_range limit ≡ false → outside_of s c.at c.end ≡ true → Finds limit rules s c (stop (refuses 50 0))
  fit : {f : Found} → out_of_range limit ≡ false → c.at ≤ c.end → c.end ≤ length s → Skipping limit rules s c.end c.at f → Finds limit rules s c f

pub finds : (limit : ℕ) (rules : Rules) (s : List ℕ) (c : Cursor) → Finds limit rules s c (found limit rules s c)
unfolding found
finds limit rules s c =
    by_test (Finds limit rules s c) (out_of_range limit) (λ g. unranged g) (λ g.
    by_test (Finds limit rules s c) (outside_of s c.at c.end) (λ h. unfit g h) (λ h.
    let l : c.at ≤ c.end = inside_order s c.at c.end h in
    fit g l (inside_end s c.at c.end h) (skipping limit rules s c.end (c.end - c.at) c.at l (omega arith))))

pub of_finds : (limit : ℕ) {rules : Rules} {s : List ℕ} {c : Cursor} {f : Found} → Finds limit rules s c f → f ≡ found limit rules s c
unfolding found
of_finds limit {rules} {s} {c} (unranged g) = simp g
of_finds limit {rules} {s} {c} (unfit g h) = simp (g, h)
of_finds limit {rules} {s} {c} (fit g l m d) = of_skipping limit rules s c.end g l m d

-- what a tile that is no pad makes the step find
pub answered : (limit : ℕ) (rules : Rules) (s : List ℕ) (at hi : ℕ) (o : Outcome Item) → at < hi → and_then o handed ≡ tile_at limit rules s at hi → Skipping limit rules s hi at (stop o)
answered limit rules s at hi (gives i) l h = at_item l (sym h)
answered limit rules s at hi (refuses n p) l h = at_refusal l (sym h)

-- what a derivation answers is the step's answer
pub answer_is : (limit : ℕ) (rules : Rules) (s : List ℕ) (at hi : ℕ) (o : Outcome Item) (f : Found) → out_of_range limit ≡ false → at ≤ hi → hi ≤ length s → Skipping limit rules s hi at f → f.answer ≡ o → o ≡ (step_of limit rules s (record { at = at; end = hi })).answer
unfolding step_of
answer_is limit rules s at hi o f g l m w q = sym q ∙ ap (λ (x : Found). x.answer) (of_skipping limit rules s hi g l m w)
