-- The four bytes of a marker of the document are what a step in a stream finds there.
-- Assumes nothing.
use Prim.Native.Nat.{ℕ, ◌+◌, ◌-◌, ◌≤◌}
use native.Mathlib.Omega.{arith}
use borrow.Author.Tests.{eq-eqb, le-ltb}
use mathlib.Core.Path.{◌≡◌}
use mathlib.Core.List.{List}
use lib.ListN.{get_or}
use Rattle.numbers.specs.Outcome.{gives}
use Rattle.stepping.specs.Items.{marker}
use Rattle.stepping.specs.Answers.{hand, marker_at, tile_at}
use Rattle.stepping.specs.declared.cursor.Rules.TheVariants.{Stream}

pub marker_complete : (limit : ℕ) (s : List ℕ) (a hi : ℕ) → get_or s a 0 ≡ 224 → get_or s (a + 1) 0 ≡ 1 → get_or s (a + 2) 0 ≡ 0 → get_or s (a + 3) 0 ≡ 234 → a + 4 ≤ hi → tile_at limit Stream s a hi ≡ gives (hand (marker a 1 0 (a + 4)))
unfolding tile_at marker_at
marker_complete limit s a hi e0 major minor ea fits =
    rw (eq-eqb (get_or s a 0) 224 e0, le-ltb (hi - a) 4 (omega arith), eq-eqb (get_or s (a + 3) 0) 234 ea, major, minor)
