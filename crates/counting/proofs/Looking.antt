-- A bounded step looks at the tile at each of the pads that it passes, and at one place more: what stands elsewhere does not matter to it.
-- Assumes nothing.
use Prim.Native.Nat.{ℕ, zero, suc, ◌+◌, ◌≤◌, ◌<◌}
use native.Mathlib.Omega.{arith}
use borrow.Author.Tests.{ltb-true, ltb-false}
use mathlib.Core.Path.{◌≡◌, refl, ◌∙◌, sym, ap, subst}
use mathlib.Core.Bool.{Bool, true, false}
use mathlib.Core.List.{List, [], ◌∷◌, Memᴰ}
use lib.ListN.{length}
use lib.Dec.{ltb, eqb}
use Rattle.numbers.specs.Outcome.{Outcome, gives, refuses, pick, and_then, outside_of}
use Rattle.numbers.proofs.Outcomes.{by_case, inside_order, inside_end}
use Rattle.framing.specs.Limits.{out_of_range}
use Rattle.stepping.specs.Items.{Item}
use Rattle.stepping.specs.Answers.{Tile, skip, hand, tile_at}
use Rattle.stepping.specs.Runs.{cursor}
use Rattle.stepping.specs.Private.Tiles.{handed}
use Rattle.stepping.specs.declared.cursor.Rules.{Rules}
use Rattle.stepping.proofs.Places.{pad_ends}
use Rattle.counting.specs.Counted.{unbegun}
use Rattle.counting.specs.Bounded.{Bounded, reached, pad_next, bounded_in, bounded}
use Rattle.counting.specs.BoundedRuns.{SameThere}
use Rattle.counting.specs.Theorems.{WorkBounded}
use Rattle.counting.proofs.Bounding.{add_pads, next_pad, bound_pad, bound_more, bound_stop, bound_end, bounded_unranged, bounded_outside}

abbrev Alike : ℕ → Rules → List ℕ → List ℕ → ℕ → List ℕ → Type 0
Alike limit rules s t hi places = (p : ℕ) → Memᴰ p places → SameThere limit rules s t hi p

-- the places that are looked at from `at` on, past k pads at most
record Seen (limit k : ℕ) (rules : Rules) (s : List ℕ) (at hi : ℕ) : Type 0 where
  places : List ℕ
  few : length places ≤ k + 1
  enough : (t : List ℕ) → length t ≡ length s → Alike limit rules s t hi places → bounded_in limit k rules t (cursor at hi) ≡ bounded_in limit k rules s (cursor at hi)

module _ (limit : ℕ) (rules : Rules) (s : List ℕ) (hi : ℕ) (g : out_of_range limit ≡ false) (m : hi ≤ length s) where
  -- at the part's end nothing is looked at
  end_seen : (k at : ℕ) → at ≡ hi → Seen limit k rules s at hi
  end_seen k at e =
      record {
        places = [];
        few = omega arith;
        enough = λ t q same.
            let n : hi ≤ length t = omega arith in
            subst (λ (x : ℕ). bounded_in limit k rules t (cursor x hi) ≡ bounded_in limit k rules s (cursor x hi)) (sym e) (bound_end limit rules t g k hi n ∙ sym (bound_end limit rules s g k hi m));
      }

  module _ (at : ℕ) (l : at < hi) where
    -- the bound is met before a pad's descriptor
    more_seen : pad_next rules s at hi ≡ true → Seen limit 0 rules s at hi
    more_seen b =
        record {
          places = at ∷ [];
          few = omega arith;
          enough = λ t q same.
              let n : hi ≤ length t = omega arith in
              bound_more limit rules t g at hi l n ((same at (Memᴰ.head refl)).1 ∙ b) ∙ sym (bound_more limit rules s g at hi l m b);
        }

    -- what stands there is no pad that is passed
    stop_seen : (k : ℕ) (o : Outcome Item) → and_then o handed ≡ tile_at limit rules s at hi → (k ≡ 0 → pad_next rules s at hi ≡ false) → Seen limit k rules s at hi
    stop_seen k o h b =
        record {
          places = at ∷ [];
          few = omega arith;
          enough = λ t q same.
              let n : hi ≤ length t = omega arith in
              let w = same at (Memᴰ.head refl) in
              bound_stop limit rules t g at hi l n k o (h ∙ sym w.0) (λ z. w.1 ∙ b z) ∙ sym (bound_stop limit rules s g at hi l m k o h b);
        }

    plain_seen : (k : ℕ) (o : Outcome Item) → and_then o handed ≡ tile_at limit rules s at hi → Seen limit k rules s at hi
    plain_seen zero o h = by_case (pad_next rules s at hi) (λ b. more_seen b) (λ b. stop_seen 0 o h (λ _. b))
    plain_seen (suc k) o h = stop_seen (suc k) o h (λ z. absurd (omega arith))

    -- past a pad
    pad_seen : (k : ℕ) {b e : ℕ} → tile_at limit rules s at hi ≡ gives (skip b e) → Seen limit k rules s e hi → Seen limit (suc k) rules s at hi
    pad_seen k h r =
        record {
          places = at ∷ r.places;
          few = omega (arith, r.few);
          enough = λ t q same.
              let n : hi ≤ length t = omega arith in
              bound_pad limit rules t g at hi l n k ((same at (Memᴰ.head refl)).0 ∙ h)
              ∙ ap (add_pads 1) (r.enough t q (λ p i. same p (Memᴰ.tail i)))
              ∙ sym (bound_pad limit rules s g at hi l m k h);
        }

    first_seen : (o : Outcome Tile) → tile_at limit rules s at hi ≡ o → Seen limit 0 rules s at hi
    first_seen (gives (skip b e)) h = more_seen (next_pad rules s at hi limit l h)
    first_seen (gives (hand i)) h = plain_seen 0 (gives i) (sym h)
    first_seen (refuses n p) h = plain_seen 0 (refuses n p) (sym h)

    next_seen : (k : ℕ) → ((e : ℕ) → e ≤ hi → Seen limit k rules s e hi) → (o : Outcome Tile) → tile_at limit rules s at hi ≡ o → Seen limit (suc k) rules s at hi
    next_seen k go (gives (skip b e)) h = pad_seen k h (go e (pad_ends limit rules s h).2)
    next_seen k go (gives (hand i)) h = plain_seen (suc k) (gives i) (sym h)
    next_seen k go (refuses n p) h = plain_seen (suc k) (refuses n p) (sym h)

  seen : (k at : ℕ) → at ≤ hi → Seen limit k rules s at hi
  seen zero at l =
      by_case (ltb at hi) (λ t. first_seen at (ltb-true at hi t) (tile_at limit rules s at hi) refl) (λ t. end_seen 0 at (omega (arith, ltb-false at hi t)))
  seen (suc k) at l =
      by_case (ltb at hi) (λ t. next_seen at (ltb-true at hi t) k (seen k) (tile_at limit rules s at hi) refl) (λ t. end_seen (suc k) at (omega (arith, ltb-false at hi t)))

outside_same : (s t : List ℕ) (at hi : ℕ) → length t ≡ length s → outside_of t at hi ≡ outside_of s at hi
unfolding outside_of
outside_same s t at hi e = rw e

pub work-bounded : WorkBounded
unfolding bounded
work-bounded limit most rules s c =
    by_case (out_of_range limit)
    (λ g. ([], record { few = omega arith; enough = λ t e same. bounded_unranged limit rules t most c g ∙ sym (bounded_unranged limit rules s most c g) }))
    (λ g.
    by_case (outside_of s c.at c.end)
    (λ o. (
      [],
      record {
        few = omega arith;
        enough = λ t e same. bounded_outside limit rules t most c g (outside_same s t c.at c.end e ∙ o) ∙ sym (bounded_outside limit rules s most c g o);
      },
    ))
    (λ o.
    let r = seen limit rules s c.end g (inside_end s c.at c.end o) most c.at (inside_order s c.at c.end o) in (
      r.places,
      record {
        few = r.few;
        enough = λ t e same.
            ap (λ (b : Bool). pick (out_of_range limit) (reached (unbegun 68)) (pick b (reached (unbegun 50)) (pick (eqb most 0) (reached (unbegun 67)) (bounded_in limit most rules t c)))) (outside_same s t c.at c.end e)
            ∙ ap (λ (x : Bounded). pick (out_of_range limit) (reached (unbegun 68)) (pick (outside_of s c.at c.end) (reached (unbegun 50)) (pick (eqb most 0) (reached (unbegun 67)) x))) (r.enough t e same);
      },
    )))
