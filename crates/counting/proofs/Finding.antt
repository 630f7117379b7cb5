-- What a step finds at a pad, at a tile that is none, at the part's end, outside the slice, and with a limit that is none.
-- Assumes nothing.
use Prim.Native.Nat.{ℕ, ◌-◌, ◌≤◌, ◌<◌}
use native.Mathlib.Omega.{arith}
use mathlib.Core.Path.{◌≡◌, refl, ◌∙◌, sym, ap, subst}
use mathlib.Core.Bool.{Bool, true, false}
use mathlib.Core.List.{List}
use lib.ListN.{length}
use Rattle.numbers.specs.Outcome.{Outcome, gives, refuses, and_then, outside_of}
use Rattle.numbers.proofs.Outcomes.{by_test}
use Rattle.framing.specs.Limits.{out_of_range}
use Rattle.stepping.specs.Items.{Item, finish}
use Rattle.stepping.specs.Answers.{Tile, skip, hand, tile_at, passing, stop, found, step_of, answer_at}
use Rattle.stepping.specs.Runs.{cursor}
use Rattle.stepping.specs.Private.Tiles.{handed}
use Rattle.stepping.specs.declared.cursor.Cursor.{Cursor}
use Rattle.stepping.specs.declared.cursor.Rules.{Rules}
use Rattle.stepping.proofs.Places.{pad_ends}
use Rattle.stepping.proofs.PadSkipping.{Skipping, at-end, at_pad, skipping, of_skipping, answered}
use Rattle.counting.specs.Counted.{unread}

module _ (limit : ℕ) (rules : Rules) (s : List ℕ) where
  pub found_unranged : (c : Cursor) → out_of_range limit ≡ true → found limit rules s c ≡ stop (refuses 68 0)
  unfolding found
  found_unranged c g = rw g

  pub found_outside : (c : Cursor) → out_of_range limit ≡ false → outside_of s c.at c.end ≡ true → found limit rules s c ≡ stop (refuses 50 0)
  unfolding found
  found_outside c g o = rw (g, o)

  -- refused before anything is read
  pub found_unread : (c : Cursor) → unread limit s c ≡ true → (n : ℕ) × (found limit rules s c ≡ stop (refuses n 0))
  found_unread c =
      by_test (λ (t : Bool). t ≡ true → (n : ℕ) × (found limit rules s c ≡ stop (refuses n 0))) (out_of_range limit)
      (λ g _. (68, found_unranged c g))
      (λ g o. (50, found_outside c g o))

module _ (limit : ℕ) (rules : Rules) (s : List ℕ) (g : out_of_range limit ≡ false) where
  -- it is what a derivation finds
  pub found_skipping : (at hi : ℕ) → at ≤ hi → hi ≤ length s → Skipping limit rules s hi at (found limit rules s (cursor at hi))
  found_skipping at hi l m =
      let w = skipping limit rules s hi (hi - at) at l (omega arith) in
      subst (Skipping limit rules s hi at) (of_skipping limit rules s hi g l m w) w

  pub found_end : (hi : ℕ) → hi ≤ length s → found limit rules s (cursor hi hi) ≡ stop (gives (finish hi))
  found_end hi m = sym (of_skipping limit rules s hi g (omega arith) m at-end)

  module _ (at hi : ℕ) (l : at < hi) (m : hi ≤ length s) where
    -- past a pad it is what the step finds behind it, with the pad before
    pub found_pad : {b e : ℕ} → tile_at limit rules s at hi ≡ gives (skip b e) → found limit rules s (cursor at hi) ≡ passing (record { start = at; body = b; end = e }) (found limit rules s (cursor e hi))
    found_pad {b} {e} h =
        let p = pad_ends limit rules s h in
        let w = skipping limit rules s hi (hi - e) e p.2 (omega arith) in
        sym (of_skipping limit rules s hi g (omega arith) m (at_pad l h w))
        ∙ ap (passing (record { start = at; body = b; end = e })) (of_skipping limit rules s hi g p.2 m w)

    pub found_stop : (o : Outcome Item) → and_then o handed ≡ tile_at limit rules s at hi → found limit rules s (cursor at hi) ≡ stop o
    found_stop o h = sym (of_skipping limit rules s hi g (omega arith) m (answered limit rules s at hi o l h))

    -- the tile of a step that passes no pad is its answer
    pub answer_tile : ((b e : ℕ) → tile_at limit rules s at hi ≡ gives (skip b e) → ⊥) → and_then (answer_at limit rules s at hi) handed ≡ tile_at limit rules s at hi
    unfolding step_of
    answer_tile n = go (tile_at limit rules s at hi) refl
      where
        go : (t : Outcome Tile) → tile_at limit rules s at hi ≡ t → and_then (found limit rules s (cursor at hi)).answer handed ≡ t
        go (gives (skip b e)) q = absurd (n b e q)
        go (gives (hand i)) q = rw (found_stop (gives i) (sym q))
        go (refuses number position) q = rw (found_stop (refuses number position) (sym q))
