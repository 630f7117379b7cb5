-- A pad's descriptor: it is below 15.
-- Assumes nothing.
use Prim.Native.Nat.{ℕ, ◌/◌, ◌%◌, ◌<◌}
use native.Mathlib.Omega.{arith}
use borrow.Author.Tests.{eqb-true, eqb-false, ltb-true, ltb-false}
use mathlib.Core.Path.{◌≡◌, ◌∙◌, sym}
use mathlib.Core.Bool.{true}
use lib.Dec.{eqb, ltb}
use Rattle.numbers.proofs.Outcomes.{by_case}
use Rattle.framing.proofs.Nibbles.{pad_kind, is-pad, no_pad_byte}
use Rattle.counting.specs.Pads.{begins_pad}

-- a pad's descriptor is below 15
pub pad_below : (b : ℕ) → begins_pad b ≡ true → b < 15
unfolding begins_pad
pad_below b h =
    let k = pad_kind (b / 16) (b % 16) h in
    let z : b / 16 ≡ 0 = k.type_is in
    by_case (eqb (b % 16) 15) (λ t. absurd (k.no_null (eqb-true (b % 16) 15 t))) (λ t. omega (arith, eqb-false (b % 16) 15 t))

-- and each byte below 15 is one
pub below_pad : (b : ℕ) → b < 15 → begins_pad b ≡ true
unfolding begins_pad
below_pad b h = is-pad (b / 16) (b % 16) (omega arith) (omega arith)

-- so the test for one is a compare
pub begins : (b : ℕ) → ltb b 15 ≡ begins_pad b
unfolding begins_pad
begins b =
    by_case (ltb b 15)
    (λ t. t ∙ sym (below_pad b (ltb-true b 15 t)))
    (λ t. rw (t, no_pad_byte b (ltb-false b 15 t)))
