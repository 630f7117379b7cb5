-- How the tiles of nested parts lie to one tile: beside it, inside its body, or around it. Over any notion of a tile that has these two laws: a tile lies in
-- its part and its header has a byte at least, and at a position of a part there is one tile at most.
-- Assumes nothing.
use Prim.Native.Nat.{ℕ, ◌≤◌, ◌<◌}
use native.Mathlib.Omega.{arith}
use mathlib.Core.Path.{◌≡◌, refl, sym, ap, subst}
use mathlib.Core.Bool.{Bool, true}
use mathlib.Core.Logic.{◌⊎◌, inl, inr, ⊎_elim}
use Rattle.stepping.specs.declared.cursor.Rules.{Rules}

-- a tile's annotation bytes and its body, each with its end, the rules of that body, and whether it opens as a part
pub record Place : Type 0 where
  pub annotations : ℕ
  pub descriptor : ℕ
  pub body : ℕ
  pub end : ℕ
  pub rules : Rules
  pub opens : Bool

-- at p, in a part that ends at hi
pub record Fits (hi p : ℕ) (x : Place) : Type 0 where
  pub low : p ≤ x.annotations
  pub annotated : x.annotations ≤ x.descriptor
  pub described : x.descriptor ≤ x.body
  pub begins : p < x.body
  pub order : x.body ≤ x.end
  pub within : x.end ≤ hi

-- `Tile rules hi p x`: in a part of these rules that ends at hi, a tile with the place x begins at p
module _ (Tile : Rules → ℕ → ℕ → Place → Type 0) where
  -- tiles, one after the other, lead from a position to another
  pub data From (rules : Rules) (hi : ℕ) : ℕ → ℕ → Type 0 where
    stay : {p : ℕ} → From rules hi p p
    on : {p q : ℕ} {x : Place} → Tile rules hi p x → From rules hi x.end q → From rules hi p q

  pub join : {rules : Rules} {hi p q r : ℕ} → From rules hi p q → From rules hi q r → From rules hi p r
  join stay g = g
  join (on t f) g = on t (join f g)

  -- the parts below a part: itself, and the bodies of the tiles that open, of one below it
  pub data Nest (rules₀ : Rules) (lo₀ hi₀ : ℕ) : Rules → ℕ → ℕ → Type 0 where
    whole : Nest rules₀ lo₀ hi₀ rules₀ lo₀ hi₀
    inner : {rules : Rules} {lo hi p : ℕ} {x : Place} → Nest rules₀ lo₀ hi₀ rules lo hi → From rules hi lo p → Tile rules hi p x → x.opens ≡ true → Nest rules₀ lo₀ hi₀ x.rules x.body x.end

  -- the tile at a with the place z is among the tiles of the part, or of a part below it
  pub data Under (a : ℕ) (z : Place) : Rules → ℕ → ℕ → Type 0 where
    here : {rules : Rules} {lo hi : ℕ} → From rules hi lo a → Tile rules hi a z → Under a z rules lo hi
    deeper : {rules : Rules} {lo hi q : ℕ} {y : Place} → From rules hi lo q → Tile rules hi q y → y.opens ≡ true → Under a z y.rules y.body y.end → Under a z rules lo hi

  -- how a part lies to that tile
  pub data Placed (a : ℕ) (z : Place) (rules : Rules) (lo hi : ℕ) : Type 0 where
    before : hi ≤ a → Placed a z rules lo hi
    behind : z.end ≤ lo → Placed a z rules lo hi
    within : z.body ≤ lo → hi ≤ z.end → Placed a z rules lo hi
    around : Under a z rules lo hi → Placed a z rules lo hi

  -- how a tile at p with the place x lies to it
  pub data Beside (a : ℕ) (z : Place) (p : ℕ) (x : Place) : Type 0 where
    left : x.end ≤ a → Beside a z p x
    right : z.end ≤ p → Beside a z p x
    inside : z.body ≤ p → x.end ≤ z.end → Beside a z p x
    owner : p ≡ a → x ≡ z → Beside a z p x
    holds : x.opens ≡ true → Under a z x.rules x.body x.end → Beside a z p x

  -- what is read at p, in a part that ends at hi: the rest of the part has nothing of that tile; or a tile is there whose header has nothing of it; or it is
  -- that tile
  pub data Clear (a : ℕ) (z : Place) (rules : Rules) (hi p : ℕ) : Type 0 where
    rest : (z.end ≤ p) ⊎ (hi ≤ a) → Clear a z rules hi p
    head : {x : Place} → Tile rules hi p x → x.body ≤ a → Clear a z rules hi p
    own : p ≡ a → Tile rules hi p z → Clear a z rules hi p

  -- a tile that is below a part is below the part that this is below
  pub lift : {rules₀ : Rules} {lo₀ hi₀ : ℕ} {rules : Rules} {lo hi a : ℕ} {z : Place} → Nest rules₀ lo₀ hi₀ rules lo hi → Under a z rules lo hi → Under a z rules₀ lo₀ hi₀
  lift whole u = u
  lift (inner n f t o) u = lift n (deeper f t o u)

  module _ (order : (rules : Rules) (hi p : ℕ) (x : Place) → Tile rules hi p x → Fits hi p x) (one : (rules : Rules) (hi p : ℕ) (x y : Place) → Tile rules hi p x → Tile rules hi p y → x ≡ y) where
    pub ahead : {rules : Rules} {hi p q : ℕ} → From rules hi p q → p ≤ q
    ahead stay = omega arith
    ahead {rules} {hi} (on {p} {q} {x} t f) = let o = order rules hi p x t in let l = ahead f in omega arith

    same_end : (rules : Rules) (hi p : ℕ) (x y : Place) → Tile rules hi p x → Tile rules hi p y → x.end ≡ y.end
    same_end rules hi p x y t u = ap (λ (z : Place). z.end) (one rules hi p x y t u)

    -- two places that are led to from one: one leads to the other
    both : {rules : Rules} {hi o p q : ℕ} → From rules hi o p → From rules hi o q → From rules hi p q ⊎ From rules hi q p
    both stay g = inl g
    both (on t f) stay = inr (on t f)
    both {rules} {hi} (on {p} {x = x} t f) (on {q = q} {x = y} t' f') =
        both f (subst (λ (z : ℕ). From rules hi z q) (sym (same_end rules hi p x y t t')) f')

    -- from a tile one is still at it, or past it
    past : {rules : Rules} {hi p q : ℕ} {x : Place} → Tile rules hi p x → From rules hi p q → (q ≡ p) ⊎ (x.end ≤ q)
    past t stay = inl refl
    past {rules} {hi} {p} {q} {x} t (on {x = y} t' f) =
        let l = ahead f in let o = same_end rules hi p x y t t' in inr (omega arith)

    -- a tile below a part, with its span
    pub fits_part : {a : ℕ} {z : Place} {rules : Rules} {lo hi : ℕ} → Under a z rules lo hi → (lo ≤ a) × Fits hi a z
    fits_part {a} {z} {rules} (here {lo = lo} {hi} f t) = (ahead f, order rules hi a z t)
    fits_part {a} {z} {rules} (deeper {lo = lo} {hi} {q} {y} f t o u) =
        let w = order rules hi q y t in
        let l = ahead f in
        let i = fits_part u in
        let g : Fits y.end a z = i.1 in
        (omega arith, record { low = g.low; annotated = g.annotated; described = g.described; begins = g.begins; order = g.order; within = omega arith })

    -- before a place there is a tile that ends at it or before it
    near : {rules : Rules} {hi p q : ℕ} → From rules hi p q → (p ≡ q) ⊎ ((x : Place) × Tile rules hi p x × (x.end ≤ q))
    near stay = inl refl
    near (on {x = x} t f) = inr (x, t, ahead f)

    -- a tile of the same part that is the one, or has it in its body: what is read at a place of the part
    aside : {rules : Rules} {hi lo q a p : ℕ} {y z : Place} → From rules hi lo q → Tile rules hi q y → q ≤ a → z.end ≤ y.end → (p ≡ q → Clear a z rules hi p) → From rules hi lo p → Clear a z rules hi p
    aside {rules} {hi} {lo} {q} {a} {p} {y} {z} f t l r at_it g =
        ⊎_elim (λ k. ⊎_elim at_it (λ h. rest (inl (omega arith))) (past t k)) (λ k. ⊎_elim at_it before_it (near k)) (both f g)
      where
        before_it : (x : Place) × Tile rules hi p x × (x.end ≤ q) → Clear a z rules hi p
        before_it w = let o = order rules hi p w.0 w.1 in head w.1 (omega arith)

    -- how a tile at p lies to one that is at q or inside what is at q
    tile_aside : {rules : Rules} {hi lo q a p : ℕ} {x y z : Place} → From rules hi lo q → Tile rules hi q y → q ≤ a → z.end ≤ y.end → (p ≡ q → x ≡ y → Beside a z p x) → From rules hi lo p → Tile rules hi p x → Beside a z p x
    tile_aside {rules} {hi} {lo} {q} {a} {p} {x} {y} {z} f t l r same g u =
        ⊎_elim (λ k. ⊎_elim at_it (λ h. right (omega arith)) (past t k)) (λ k. ⊎_elim (λ h. at_it (sym h)) (λ h. left (omega arith)) (past u k)) (both f g)
      where
        at_it : p ≡ q → Beside a z p x
        at_it h = same h (one rules hi q x y (subst (λ (z : ℕ). Tile rules hi z x) h u) t)

    tile_under : {rules : Rules} {hi lo a p : ℕ} {x z : Place} → Under a z rules lo hi → From rules hi lo p → Tile rules hi p x → Beside a z p x
    tile_under (here f t) g u = tile_aside f t (omega arith) (omega arith) (λ h q. owner h q) g u
    tile_under {rules} {hi} {a = a} {p} {x} {z} (deeper {q = q} {y} f t o v) g u =
        let i = fits_part v in
        let w = order rules hi q y t in
        let k = i.1 in
        tile_aside f t (omega arith) (omega arith) (λ _ k. subst (λ (y : Place). Beside a z p y) (sym k) (holds o v)) g u

    -- every tile of a part that lies so to the tile
    pub tile_placed : {rules : Rules} {hi lo a p : ℕ} {x z : Place} → Placed a z rules lo hi → From rules hi lo p → Tile rules hi p x → Beside a z p x
    tile_placed {rules} {hi} {p = p} {x} (before h) g u = let o = order rules hi p x u in left (omega arith)
    tile_placed (behind h) g u = let l = ahead g in right (omega arith)
    tile_placed {rules} {hi} {p = p} {x} (within h k) g u = let o = order rules hi p x u in let l = ahead g in inside (omega arith) (omega arith)
    tile_placed (around v) g u = tile_under v g u

    -- every part below the whole lies so to a tile below it
    pub placed : {a : ℕ} {z : Place} {rules₀ : Rules} {lo₀ hi₀ : ℕ} {rules : Rules} {lo hi : ℕ} → Under a z rules₀ lo₀ hi₀ → Nest rules₀ lo₀ hi₀ rules lo hi → Placed a z rules lo hi
    placed u whole = around u
    placed {a = a} {z = z} u (inner {rules} {lo} {hi} {p} {x} n f t o) = go (tile_placed (placed u n) f t)
      where
        w : Fits hi p x
        w = order rules hi p x t

        go : Beside a z p x → Placed a z x.rules x.body x.end
        go (left h) = before h
        go (right h) = behind (omega (arith, w.begins))
        go (inside h k) = within (omega (arith, w.begins)) k
        go (owner h q) = let b = ap (λ (y : Place). y.body) q in let e = ap (λ (y : Place). y.end) q in within (omega arith) (omega arith)
        go (holds k v) = around v

    -- what is read at a place of a part that is not inside the tile's body
    pub clear : {rules : Rules} {a lo hi p : ℕ} {z : Place} → Placed a z rules lo hi → ((z.body ≤ lo) × (hi ≤ z.end) → ⊥) → From rules hi lo p → Clear a z rules hi p
    clear (before h) out g = rest (inr h)
    clear (behind h) out g = let l = ahead g in rest (inl (omega arith))
    clear (within h k) out g = absurd (out (h, k))
    clear {rules} {a} {hi = hi} {z = z} (around (here f t)) out g =
        aside f t (omega arith) (omega arith) (λ h. own h (subst (λ (q : ℕ). Tile rules hi q z) (sym h) t)) g
    clear {rules} {hi = hi} (around (deeper {q = q} {y} f t o u)) out g =
        let i = fits_part u in
        let k = i.1 in
        let w = order rules hi q y t in
        aside f t (omega arith) (omega arith) (λ h. head (subst (λ (q : ℕ). Tile rules hi q y) (sym h) t) (omega arith)) g

    -- a byte of the tile in the header of a tile that is read so: this is that tile
    pub in_header : {rules : Rules} {hi a p i : ℕ} {x z : Place} → Clear a z rules hi p → Tile rules hi p x → p ≤ i → i < x.body → a ≤ i → i < z.end → (p ≡ a) × (x ≡ z)
    in_header {rules} {hi} {p = p} {x = x} (rest (inl h)) t l m k n = absurd (omega arith)
    in_header {rules} {hi} {p = p} {x = x} (rest (inr h)) t l m k n = let o = order rules hi p x t in absurd (omega arith)
    in_header {rules} {hi} {p = p} {x = x} (head {x = y} u h) t l m k n = let q = ap (λ (z : Place). z.body) (one rules hi p x y t u) in absurd (omega arith)
    in_header {rules} {hi} {p = p} {x = x} {z} (own h u) t l m k n = (h, one rules hi p x z t u)

    -- a byte of the tile in the body of one that has it not inside, and is not inside it: this is that tile
    pub in_body : {rules : Rules} {hi lo a p i : ℕ} {x z : Place} → Placed a z rules lo hi → From rules hi lo p → Tile rules hi p x → ((z.body ≤ p) × (x.end ≤ z.end) → ⊥) → (x.opens ≡ true → x.body ≤ a → z.end ≤ x.end → ⊥) → x.body ≤ i → i < x.end → a ≤ i → i < z.end → (p ≡ a) × (x ≡ z)
    in_body {rules} {hi} {a = a} {p} {i} {x} {z} l f t out none b e k n = go (tile_placed l f t)
      where
        o : Fits hi p x
        o = order rules hi p x t

        go : Beside a z p x → (p ≡ a) × (x ≡ z)
        go (left h) = absurd (omega arith)
        go (right h) = absurd (omega (arith, o.begins))
        go (inside h r) = absurd (out (h, r))
        go (owner h q) = (h, q)
        go (holds r u) = let w = fits_part u in absurd (none r w.0 w.1.within)
