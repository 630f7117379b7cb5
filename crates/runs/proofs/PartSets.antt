-- `parts-are-sets`: of two tiles of one part neither lies in the other's body.
-- Assumes nothing.
use Prim.Native.Nat.{ℕ}
use native.Mathlib.Omega.{arith}
use mathlib.Core.Path.{◌≡◌, refl, ap}
use mathlib.Core.List.{List}
use Rattle.stepping.specs.declared.cursor.Rules.{Rules}
use Rattle.runs.specs.Reached.{Outside, ByRules}
use Rattle.runs.specs.Overwritten.{Site, ReachedSite, reached_value, reached_pad, OfPart, its_value, its_pad}
use Rattle.runs.specs.Theorems.{PartsAreSets}
use Rattle.runs.proofs.Nest as nest
use Rattle.runs.proofs.Nest.{Place, here, around}
use Rattle.runs.proofs.Standing.{Standing, value_place, closed_place, site_of, order, one, TileOf, tile_span, value_tile, pad_tile}

module _ (limit : ℕ) (s : List ℕ) (lo₀ hi₀ : ℕ) (rules : Rules) (lo hi : ℕ) where
  -- its tile
  record HasTile (x : Site) : Type 0 where
    pub place : Place
    pub tile : TileOf limit s rules lo hi x.start place
    pub is : x ≡ site_of x.start place

  has_tile : {x : Site} → OfPart limit s lo₀ hi₀ rules lo hi x → HasTile x
  has_tile (its_value {v = v} h k) = record { place = value_place v; tile = value_tile limit s rules k h.run h.among; is = refl }
  has_tile (its_pad {p} h) = record { place = closed_place p.body p.end; tile = pad_tile limit s rules h.run h.among; is = refl }

  is_reached : {x : Site} → OfPart limit s lo₀ hi₀ rules lo hi x → ReachedSite limit s (ByRules limit s).step lo₀ hi₀ x
  is_reached (its_value h k) = reached_value h k
  is_reached (its_pad h) = reached_pad h

  apart : (x y : Site) → HasTile x → HasTile y → Outside x.body x.end y.start y.end
  apart x y t u w =
      let f = tile_span limit s t.tile in
      let g = tile_span limit s u.tile in
      let fit = f.1 in
      let git = g.1 in
      let b = ap (λ (z : Site). z.body) t.is in
      let e = ap (λ (z : Site). z.end) t.is in
      let e' = ap (λ (z : Site). z.end) u.is in
      let c = nest.clear (Standing limit s) (order limit s) (one limit s) (around (here t.tile.to t.tile.stands)) (λ i. omega arith) u.tile.to in
      let q = (nest.in_header (Standing limit s) (order limit s) (one limit s) {i = y.start} c u.tile.stands (omega arith) (omega arith) (omega arith) (omega arith)).0 in
      omega arith

pub parts-are-sets : PartsAreSets
parts-are-sets limit s lo₀ hi₀ rules lo hi =
    record {
      reached = λ x c. is_reached limit s lo₀ hi₀ rules lo hi c;
      none_inside = λ x y c d. apart limit s lo₀ hi₀ rules lo hi x y (has_tile limit s lo₀ hi₀ rules lo hi c) (has_tile limit s lo₀ hi₀ rules lo hi d);
    }
