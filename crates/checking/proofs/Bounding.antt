-- No count exceeds the position that a check has reached: each pad, each marker and each value has a byte at least.
-- Assumes nothing.
use Prim.Native.Nat.{ℕ, ◌+◌, ◌≤◌, ◌<◌}
use native.Mathlib.Omega.{arith}
use mathlib.Core.Path.{◌∙◌, sym, subst}
use mathlib.Core.Bool.{Bool, true, false}
use mathlib.Core.List.{List}
use lib.ListN.{length-replicate, get_or-replicate}
use lib.Dec.{ltb, eqb}
use borrow.Author.Tests.{ltb-true}
use Rattle.numbers.specs.Outcome.{pick}
use Rattle.numbers.proofs.Outcomes.{by_test}
use Rattle.checking.specs.Counts.{type_place, none, counting}
use Rattle.checking.specs.Private.Items.{Below}
use Rattle.checking.proofs.Tallies.{counting_length, counting_at}

at_most : (t : Bool) (n : ℕ) → pick t n 0 ≤ n
at_most true n = omega arith
at_most false n = omega arith

pub below_counting : (at at' place n : ℕ) (c : List ℕ) → Below at c → at + n ≤ at' → Below at' (counting place n c)
below_counting at at' place n c b l =
    record {
      long = counting_length place n c ∙ b.long;
      each = λ i h.
          omega (arith, counting_at i place n c (subst (λ (m : ℕ). i < m) (sym b.long) h), b.each i h, at_most (eqb i place) n);
    }

pub below_none : Below 0 none
below_none = record { long = length-replicate {A = ℕ} 15 0; each = λ i h. omega (arith, get_or-replicate {A = ℕ} 15 i 0 0 h) }

-- a type of the document has a place
pub place_small : (type : ℕ) → type ≤ 13 → type_place type < 15
unfolding type_place
place_small type l = by_test (λ (n : ℕ). n < 15) (ltb type 3) (λ h. omega (arith, ltb-true type 3 h)) (λ _. omega arith)
