-- What a bounded step answers from a place on, behind the pads that it passed: by what stands there.
-- Assumes nothing.
use Prim.Native.Nat.{ℕ, suc, ◌+◌, ◌-◌, ◌≤◌, ◌<◌}
use native.Mathlib.Omega.{arith}
use mathlib.Core.Path.{◌≡◌, refl, ◌∙◌, sym, ap}
use mathlib.Core.Bool.{true, false}
use mathlib.Core.List.{List}
use lib.ListN.{length, get_or}
use Rattle.numbers.specs.Outcome.{Outcome, gives, refuses, and_then, outside_of}
use Rattle.numbers.specs.Answers.{Unsigned}
use Rattle.numbers.proofs.Outcomes.{inside_order, inside_end}
use Rattle.framing.specs.Limits.{out_of_range}
use Rattle.framing.specs.Answers.{read_pad}
use Rattle.framing.specs.Spans.{Padding}
use Rattle.stepping.specs.Items.{Item, finish}
use Rattle.stepping.specs.Answers.{skip, tile_at}
use Rattle.stepping.specs.Names.{name_at, answer_from}
use Rattle.stepping.specs.Private.Tiles.{handed}
use Rattle.stepping.specs.Runs.{cursor}
use Rattle.stepping.specs.declared.cursor.Rules.{Rules}
use Rattle.stepping.proofs.Plain.{name_in, named_stepped}
use Rattle.stepping.proofs.Places.{pad_ends}
use Rattle.counting.specs.Pads.{begins_pad}
use Rattle.counting.specs.Bounded.{Bounded, reached, more, bounded_in, bounded}
use Rattle.counting.proofs.PadTiles.{pad_tile, refused_tile, no-pad}
use Rattle.counting.proofs.Finding.{answer_tile}
use Rattle.counting.proofs.Bounding.{add_pads, add_none, add_added, next_named, next_refused, bound_pad, bound_more, bound_stop, bound_end, bounded_unranged, bounded_outside, bounded_none, bounded-in, reach_begun, reach_ended, reach_more}

-- from `at` on, past as many pads as are left of `most`, with the n passed before
pub behind : ℕ → ℕ → Rules → List ℕ → ℕ → ℕ → ℕ → Bounded
behind limit most rules s n at hi = add_pads n (bounded_in limit (most - n) rules s (cursor at hi))

module _ (limit most : ℕ) (rules : Rules) (s : List ℕ) (hi : ℕ) where
  pub behind_none : (at : ℕ) → out_of_range limit ≡ false → outside_of s at hi ≡ false → (most ≡ 0 → ⊥) → behind limit most rules s 0 at hi ≡ bounded limit most rules s (cursor at hi)
  unfolding behind
  behind_none at g o n =
      let z : most - 0 ≡ most = omega arith in
      add_none (bounded_in limit (most - 0) rules s (cursor at hi))
      ∙ ap (λ (k : ℕ). bounded_in limit k rules s (cursor at hi)) z
      ∙ sym (bounded-in limit rules s most (cursor at hi) g o n)

  module _ (g : out_of_range limit ≡ false) (m : hi ≤ length s) where
    -- the part's end
    pub behind_end : (n names : ℕ) → names ≡ n → behind limit most rules s n hi hi ≡ reached (record { answer = gives (finish hi); pads = n; names = names })
    unfolding behind
    behind_end n names e = sym (reach_ended n names (gives (finish hi)) (bound_end limit rules s g (most - n) hi m) e refl)

    module _ (at : ℕ) (l : at < hi) (n : ℕ) where
      -- a name that is refused
      pub behind_unnamed : (names : ℕ) {number position : ℕ} → names ≡ n → name_at rules s at hi ≡ refuses number position → behind limit most rules s n at hi ≡ reached (record { answer = refuses number position; pads = n; names = names + 1 })
      unfolding behind
      behind_unnamed names {number} {position} e name =
          let h = sym (refused_tile limit rules s at hi g l m name) in
          sym (reach_begun n names (refuses number position) (bound_stop limit rules s g at hi l m (most - n) (refuses number position) h (λ _. next_refused rules s at hi name)) e refl)

      module _ (u : Unsigned) (name : name_at rules s at hi ≡ gives u) where
        -- it ends before the part does
        pub name_ends : u.next < hi
        name_ends = (name_in rules s at hi l u name).high

        -- behind the name begins no pad
        pub behind_item : (names : ℕ) → names ≡ n → begins_pad (get_or s u.next 0) ≡ false → behind limit most rules s n at hi ≡ reached (record { answer = answer_from limit rules s at hi u; pads = n; names = names + 1 })
        unfolding behind
        behind_item names e f =
            let none = no-pad limit rules s at hi u name f in
            let h = ap (λ (x : Outcome Item). and_then x handed) (named_stepped limit rules s at hi u name) ∙ answer_tile limit rules s g at hi l m none in
            let q = next_named rules s at hi l u name ∙ f in
            sym (reach_begun n names (answer_from limit rules s at hi u) (bound_stop limit rules s g at hi l m (most - n) (answer_from limit rules s at hi u) h (λ _. q)) e refl)

-- at a place of a part, behind the name u, stands a pad's descriptor
pub record PadBegun (limit : ℕ) (rules : Rules) (s : List ℕ) (at hi : ℕ) (u : Unsigned) : Type 0 where
  pub ranged : out_of_range limit ≡ false
  pub within : hi ≤ length s
  pub before : at < hi
  pub name : name_at rules s at hi ≡ gives u
  pub descriptor : begins_pad (get_or s u.next 0) ≡ true

module _ {limit : ℕ} {rules : Rules} {s : List ℕ} {at hi : ℕ} {u : Unsigned} (b : PadBegun limit rules s at hi u) where
  -- no more pads may be passed
  pub behind_more : (most n : ℕ) → n ≡ most → behind limit most rules s n at hi ≡ more n at
  unfolding behind
  behind_more most n e =
      let z : most - n ≡ 0 = omega arith in
      sym (reach_more n at (ap (λ (k : ℕ). bounded_in limit k rules s (cursor at hi)) z ∙ bound_more limit rules s b.ranged at hi b.before b.within (next_named rules s at hi b.before u b.name ∙ b.descriptor)) refl)

  -- the pad
  pad_there : {p : Padding} → read_pad s u.next hi ≡ gives p → tile_at limit rules s at hi ≡ gives (skip p.body p.end)
  pad_there e = pad_tile limit rules s at hi u b.name b.descriptor ∙ rw e

  pub pad_passed : {p : Padding} → read_pad s u.next hi ≡ gives p → (at < p.end) × (p.end ≤ hi)
  pad_passed {p} e = let w = pad_ends limit rules s (pad_there e) in (omega (arith, w.0, w.1), w.2)

  pub behind_pad : (most n : ℕ) {p : Padding} → read_pad s u.next hi ≡ gives p → n < most → behind limit most rules s n at hi ≡ behind limit most rules s (n + 1) p.end hi
  unfolding behind
  behind_pad most n {p} e k =
      let z : most - n ≡ suc (most - (n + 1)) = omega arith in
      ap (λ (j : ℕ). add_pads n (bounded_in limit j rules s (cursor at hi))) z
      ∙ ap (add_pads n) (bound_pad limit rules s b.ranged at hi b.before b.within (most - (n + 1)) (pad_there e))
      ∙ add_added n 1 (bounded_in limit (most - (n + 1)) rules s (cursor p.end hi)) refl

  -- it is refused
  pub behind_cut : (most n names : ℕ) {number position : ℕ} → names ≡ n → read_pad s u.next hi ≡ refuses number position → n < most → behind limit most rules s n at hi ≡ reached (record { answer = refuses number position; pads = n; names = names + 1 })
  unfolding behind
  behind_cut most n names {number} {position} e q k =
      let o : Outcome Item = refuses number position in
      let h : and_then o handed ≡ tile_at limit rules s at hi = sym (pad_tile limit rules s at hi u b.name b.descriptor ∙ rw q) in
      let more_left : most - n ≡ 0 → ⊥ = λ z. omega arith in
      sym (reach_begun n names o (bound_stop limit rules s b.ranged at hi b.before b.within (most - n) o h (λ z. absurd (more_left z))) e refl)

-- what the proof of the bounded step goes by
pub ruleset bounded_laws = (bounded_unranged, bounded_outside, bounded_none, inside_order, inside_end, behind_none, behind_end, behind_unnamed, name_ends, behind_item)
