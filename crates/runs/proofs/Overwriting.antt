-- Two maps that differ only in bodies and annotation bytes of values and pads that are reached, none inside another: what is reached outside them is the same,
-- and so are the answers there. At each place of a part outside them the same stands: a tile has nothing of them in its header but, where it is one of them,
-- its own annotations, which framing does not read; and where a step is refused, the rest of the part has nothing of them.
-- Assumes nothing.
use Prim.Native.Nat.{ℕ, ◌≤◌, ◌<◌}
use native.Mathlib.Omega.{arith}
use borrow.Author.Tests.{le-ltb, ltb-true, ltb-false}
use mathlib.Core.Path.{◌≡◌, refl, ◌∙◌, sym, ap, subst}
use mathlib.Core.Bool.{true, false, true≢false}
use mathlib.Core.Logic.{inl, inr, ⊎_elim}
use mathlib.Core.List.{List, Memᴰ}
use lib.Dec.{ltb}
use Rattle.numbers.specs.Outcome.{Outcome, gives, refuses}
use Rattle.numbers.specs.Bytes.{Same}
use Rattle.numbers.proofs.Outcomes.{by_case, each_of}
use Rattle.numbers.proofs.Parts.{part_none}
use Rattle.framing.specs.Limits.{out_of_range}
use Rattle.framing.specs.Spans.{Spans}
use Rattle.framing.specs.Answers.{read_value}
use Rattle.framing.proofs.Locality.{value_given_local, annotation_local}
use Rattle.stepping.specs.Items.{Item, item_end, Pad}
use Rattle.stepping.specs.Answers.{Tile, tile_at, Found, found, Stepped}
use Rattle.stepping.specs.Runs.{cursor, Answers, Run, items}
use Rattle.stepping.specs.declared.cursor.Cursor.{Cursor}
use Rattle.stepping.specs.declared.cursor.Rules.{Rules}
use Rattle.values.specs.Scalars.{value_in, is_container, step_in, scalar_of, read_scalar, part_of, scalar_part}
use Rattle.values.proofs.Reading.{value_in_slice}
use Rattle.runs.specs.Reached.{ValueOf, a_value, a_field, item_start, Part, the_stream, inner, Handed, left, pads_after, Agree, In, EntryAt, ByRules, Iff, EitherPart, Calls}
use Rattle.runs.specs.Overwritten.{Site, value_site, pad_site, Skipped, ReachedSite, reached_value, reached_pad, Sites, Over, in_body, in_annotations, OutsideAll, NoneOf, SameReached}
use Rattle.runs.specs.Theorems.{Overwriting}
use Rattle.runs.proofs.Nest as nest
use Rattle.runs.proofs.Nest.{Place, Fits, stay, Clear, rest, head, own, Placed}
use Rattle.runs.proofs.Standing.{Standing, value_place, site_of, order, one, To, item_stands, led, nested, TileOf, tile_span, value_tile, pad_tile, SiteBelow, site_below}
use Rattle.runs.proofs.TileLocality.{tile_local, SameHead, tile_given_local}
use Rattle.runs.proofs.ValueLocality.{ValueStands, value_stands, Afresh, afresh, scalar_local, scalar_part_local, container_read}
use Rattle.runs.proofs.SameTiles.{cursor_over, run_over, alone, annotations_alone}

abbrev pub Rule : ℕ → List ℕ → Rules → Cursor → Stepped → Type 0
Rule limit s rules = Answers limit rules s

-- a site with the place of its tile
record Bounds (x : Site) (z : Place) : Type 0 where
  pub annotations : x.annotations ≡ z.annotations
  pub descriptor : x.descriptor ≡ z.descriptor
  pub body : x.body ≡ z.body
  pub end : x.end ≡ z.end

bounds : {a : ℕ} {x : Site} {z : Place} → x ≡ site_of a z → Bounds x z
bounds q =
    record {
      annotations = ap (λ (y : Site). y.annotations) q;
      descriptor = ap (λ (y : Site). y.descriptor) q;
      body = ap (λ (y : Site). y.body) q;
      end = ap (λ (y : Site). y.end) q;
    }

module _ (limit : ℕ) (s s' : List ℕ) (lo₀ hi₀ : ℕ) (Chosen : Site → Type 0) (sites : Sites limit s (Rule limit s) lo₀ hi₀ Chosen) (agree : Agree s s' (Over Chosen)) where
  -- ---- what a part has of them

  below : (x : Site) → Chosen x → SiteBelow limit s lo₀ hi₀ x
  below x c = site_below limit s (sites.reached x c)

  bounded : (x : Site) (c : Chosen x) → Bounds x (below x c).place
  bounded x c = bounds (below x c).is

  fitted : (x : Site) (c : Chosen x) → Fits hi₀ x.start (below x c).place
  fitted x c = (nest.fits_part (Standing limit s) (order limit s) (one limit s) (below x c).below).1

  lies : (x : Site) (c : Chosen x) {rules : Rules} {lo hi : ℕ} → Part (Rule limit s) lo₀ hi₀ rules lo hi → Placed (Standing limit s) x.start (below x c).place rules lo hi
  lies x c pt = nest.placed (Standing limit s) (order limit s) (one limit s) (below x c).below (nested limit s pt)

  -- an overwritten byte is one of a span
  span_over : {i : ℕ} → Over Chosen i → (x : Site) × Chosen x × (x.start ≤ i) × (i < x.end)
  span_over (in_body {x} c m) = let f = fitted x c in let b = bounded x c in (x, c, omega arith, omega arith)
  span_over (in_annotations {x} c m) = let f = fitted x c in let b = bounded x c in (x, c, omega arith, omega arith)

  module _ {rules : Rules} {lo hi : ℕ} (pt : Part (Rule limit s) lo₀ hi₀ rules lo hi) (out : OutsideAll Chosen lo hi) where
    clear : (x : Site) (c : Chosen x) {p : ℕ} → To limit s rules hi lo p → Clear (Standing limit s) x.start (below x c).place rules hi p
    clear x c f =
        let b = bounded x c in
        nest.clear (Standing limit s) (order limit s) (one limit s) (lies x c pt) (λ w. out x c (omega arith, omega arith)) f

    -- a byte of theirs in the header of a tile: this is that one
    header_in : {p i : ℕ} {y : Place} → TileOf limit s rules lo hi p y → (x : Site) (c : Chosen x) → p ≤ i → i < y.body → x.start ≤ i → i < x.end → (p ≡ x.start) × (y ≡ (below x c).place)
    header_in t x c l m k n =
        let b = bounded x c in
        nest.in_header (Standing limit s) (order limit s) (one limit s) (clear x c t.to) t.stands l m k (omega arith)

    -- so that what is overwritten of a header are its own annotations
    header_over : {p i : ℕ} {y : Place} → TileOf limit s rules lo hi p y → p ≤ i → i < y.body → Over Chosen i → In y.annotations y.descriptor i
    header_over {y = y} t l m (in_body {x} c w) =
        let f = fitted x c in
        let b = bounded x c in
        let q = ap (λ (z : Place). z.body) (header_in t x c l m (omega arith) (omega arith)).1 in
        absurd (omega arith)
    header_over {y = y} t l m (in_annotations {x} c w) =
        let f = fitted x c in
        let b = bounded x c in
        let h = (header_in t x c l m (omega arith) (omega arith)).1 in
        let q = ap (λ (z : Place). z.annotations) h in
        let r = ap (λ (z : Place). z.descriptor) h in
        (omega arith, omega arith)

    same_head : {p : ℕ} {y : Place} → TileOf limit s rules lo hi p y → SameHead limit s s' agree.long p y
    same_head {p} {y} t =
        let f : Fits hi p y = order limit s rules hi p y t.stands in
        record {
          before = λ i a c. agree.same i (λ o. let w = header_over t a (omega arith) o in omega arith);
          behind = λ i a c. agree.same i (λ o. let w = header_over t (omega arith) c o in omega arith);
        }

    -- where a step is refused, the rest of the part has nothing of them
    rest_over : (p : ℕ) → To limit s rules hi lo p → {n q : ℕ} → tile_at limit rules s p hi ≡ refuses n q → (i : ℕ) → p ≤ i → i < hi → Over Chosen i → ⊥
    rest_over p g h i l m o = let w = span_over o in go w.0 w.1 w.2 w.3 (clear w.0 w.1 g)
      where
        go : (x : Site) (c : Chosen x) → x.start ≤ i → i < x.end → Clear (Standing limit s) x.start (below x c).place rules hi p → ⊥
        go x c k n (rest (inl z)) = let b = bounded x c in omega arith
        go x c k n (rest (inr z)) = omega arith
        go x c k n (head t z) = let e : ◌≡◌ {A = ℕ} 0 1 = cc t.is in omega arith
        go x c k n (own z t) = let e : ◌≡◌ {A = ℕ} 0 1 = cc t.is in omega arith

    tile_over : (p : ℕ) → To limit s rules hi lo p → p < hi → tile_at limit rules s p hi ≡ tile_at limit rules s' p hi
    tile_over p g l = go (tile_at limit rules s p hi) refl
      where
        go : (o : Outcome Tile) → tile_at limit rules s p hi ≡ o → tile_at limit rules s p hi ≡ tile_at limit rules s' p hi
        go (gives x) h =
            h
            ∙ sym
            (tile_given_local limit s s' agree.long rules p hi x h
            (same_head (record { to = g; stands = record { tile = x; before = l; is = h; place = refl } })))
        go (refuses n q) h = tile_local limit s s' agree.long rules p hi l (λ i m k. agree.same i (rest_over p g h i m k))

    -- ---- a run on the other map

    pub found_same : (c : Cursor) → c.end ≡ hi → To limit s rules hi lo c.at → found limit rules s c ≡ found limit rules s' c
    found_same c q g = cursor_over limit s s' agree.long rules lo hi tile_over c q g

    pub over : {rs : List Stepped} → Run (Answers limit rules s) (cursor lo hi) rs → Run (Answers limit rules s') (cursor lo hi) rs
    over run = run_over limit s s' agree.long rules lo hi tile_over refl stay run

    -- and the next call skips the same pads
    pub pads_same : {rs : List Stepped} → Run (Answers limit rules s) (cursor lo hi) rs → pads_after limit rules s lo hi rs ≡ pads_after limit rules s' lo hi rs
    pads_same {rs} run =
        let w = led limit s rules run in
        ap (λ (f : Found). f.pads) (found_same (left (cursor lo hi) rs) w.0 w.1)

  -- ---- what is reached on the one map is reached on the other

  -- the stream is outside them
  pub stream_out : OutsideAll Chosen lo₀ hi₀
  stream_out x c w =
      let u = nest.fits_part (Standing limit s) (order limit s) (one limit s) (below x c).below in
      let f = u.1 in
      let b = bounded x c in
      omega arith

  -- a part that has something outside them is outside them
  part-of : {lo hi a e : ℕ} → lo ≤ a → e ≤ hi → OutsideAll Chosen a e → OutsideAll Chosen lo hi
  part-of l m out x c w = out x c (omega arith, omega arith)

  -- and so is one that has one of them
  holder : (x : Site) → Chosen x → {lo hi : ℕ} → lo ≤ x.start → x.end ≤ hi → OutsideAll Chosen lo hi
  holder x c l m = part-of l m (λ y d w. sites.none_inside y x d c (omega arith, omega arith))

  pub reaches : {rules : Rules} {lo hi : ℕ} → Part (Rule limit s) lo₀ hi₀ rules lo hi → OutsideAll Chosen lo hi → Part (Rule limit s') lo₀ hi₀ rules lo hi
  reaches the_stream out = the_stream
  reaches (inner {rules} {lo} {hi} {v = v} pt run m k o) out =
      let w = tile_span limit s (value_tile limit s rules k run m) in
      let f = w.1 in
      let far : OutsideAll Chosen lo hi = part-of (omega arith) f.within out in
      inner (reaches pt far) (over pt far run) m k o

  pub hands : {rules : Rules} {lo hi : ℕ} {i : Item} → OutsideAll Chosen lo hi → Handed (Rule limit s) lo₀ hi₀ rules lo hi i → Handed (Rule limit s') lo₀ hi₀ rules lo hi i
  hands out h = record { part = reaches h.part out; calls = h.calls; run = over h.part out h.run; among = h.among }

  pub skips : {rules : Rules} {lo hi : ℕ} {p : Pad} → OutsideAll Chosen lo hi → Skipped limit s (Rule limit s) lo₀ hi₀ rules lo hi p → Skipped limit s' (Rule limit s') lo₀ hi₀ rules lo hi p
  skips {p = p} out h =
      record {
        part = reaches h.part out;
        calls = h.calls;
        run = over h.part out h.run;
        among = subst (Memᴰ p) (pads_same h.part out h.run) h.among;
      }

  -- each of them too
  site_over : {x : Site} → Chosen x → ReachedSite limit s (Rule limit s) lo₀ hi₀ x → ReachedSite limit s' (Rule limit s') lo₀ hi₀ x
  site_over c (reached_value {rules} {i = i} {v} h k) =
      let w = tile_span limit s (value_tile limit s rules k h.run h.among) in
      reached_value (hands (holder (value_site i v) c w.0 w.1.within) h) k
  site_over c (reached_pad {rules} {p = p} h) =
      let w = tile_span limit s (pad_tile limit s rules h.run h.among) in
      reached_pad (skips (holder (pad_site p) c w.0 w.1.within) h)

  pub sites_over : Sites limit s' (Rule limit s') lo₀ hi₀ Chosen
  sites_over = record { reached = λ x c. site_over c (sites.reached x c); none_inside = sites.none_inside }

  -- ---- a value that is handed out, and does not lie in one of them

  ends_with : {i : Item} {v : Spans} → ValueOf i v → item_end i ≡ v.end
  ends_with a_value = refl
  ends_with a_field = refl

  module _ {rules : Rules} {lo hi : ℕ} {i : Item} {v : Spans} (h : Handed (Rule limit s) lo₀ hi₀ rules lo hi i) (k : ValueOf i v) where
    tile : TileOf limit s rules lo hi (item_start i) (value_place v)
    tile = value_tile limit s rules k h.run h.among

    pub span : (lo ≤ item_start i) × Fits hi (item_start i) (value_place v)
    span = tile_span limit s tile

    -- of a part outside them it lies in none of them
    pub value_out : OutsideAll Chosen lo hi → OutsideAll Chosen (item_start i) (item_end i)
    value_out out x c w =
        let f = fitted x c in
        let b = bounded x c in
        let g = span.1 in
        let e = ends_with k in
        let q = (header_in h.part out {i = item_start i} tile x c (omega arith) (omega arith) (omega arith) (omega arith)).0 in
        omega arith

    -- and one of them with its body is it
    pub site_is : OutsideAll Chosen lo hi → (x : Site) → Chosen x → v.body ≡ x.body → v.end ≡ x.end → x ≡ value_site i v
    site_is out x c p q =
        let f : Fits hi₀ x.start (below x c).place = fitted x c in
        let b : Bounds x (below x c).place = bounded x c in
        let g : Fits hi (item_start i) (value_place v) = span.1 in
        by_case (ltb (item_start i) x.start)
        (λ l. is (header_in h.part out {i = x.start} tile x c (omega (arith, ltb-true (item_start i) x.start l)) (omega arith) (omega arith) (omega arith)))
        (λ l. is (header_in h.part out {i = item_start i} tile x c (omega arith) (omega arith) (ltb-false (item_start i) x.start l) (omega arith)))
      where
        is : (item_start i ≡ x.start) × (value_place v ≡ (below x c).place) → x ≡ value_site i v
        is w = (below x c).is ∙ sym (ap (λ (z : Place). site_of x.start z) w.1) ∙ sym (ap (λ (a : ℕ). site_of a (value_place v)) w.0)

  module _ {rules : Rules} {lo hi : ℕ} {i : Item} {v : Spans} (h : Handed (Rule limit s) lo₀ hi₀ rules lo hi i) (k : ValueOf i v) (out : OutsideAll Chosen (item_start i) (item_end i)) where
    there : ValueStands limit s hi (item_start i) i v
    there =
        let w = item_stands limit s rules h.run h.among in
        let u = value_stands limit rules s w.place hi k w.is in
        subst (λ (p : ℕ). ValueStands limit s hi p i v) (sym u.starts) u

    pub part_out : OutsideAll Chosen lo hi
    part_out = let f = (span h k).1 in part-of (span h k).0 (omega (arith, ends_with k, f.within)) out

    head_same : SameHead limit s s' agree.long (item_start i) (value_place v)
    head_same = same_head h.part part_out (tile h k)

    -- one of them with this value's place is none that it is not
    not_it : NoneOf Chosen v → (x : Site) (c : Chosen x) → value_place v ≡ (below x c).place → ⊥
    not_it other x c q =
        let b = bounded x c in
        let y = ap (λ (z : Place). z.body) q in
        let e = ap (λ (z : Place). z.end) q in
        other x c (omega arith, omega arith)

    pub annotations_kept : NoneOf Chosen v → Same s s' v.annotations v.descriptor
    annotations_kept other j m n =
        let f = (span h k).1 in
        agree.same j (λ o.
        let w = span_over o in
        not_it other w.0 w.1 (header_in h.part part_out (tile h k) w.0 w.1 (omega (arith, f.low)) (omega (arith, f.described)) w.2 w.3).1)

    -- so does the body, where it has none of them inside
    pub body_kept : NoneOf Chosen v → ((x : Site) → Chosen x → is_container v ≡ true → v.body ≤ x.start → x.end ≤ v.end → ⊥) → Same s s' v.body v.end
    body_kept other free j m n =
        agree.same j (λ o.
        let w = span_over o in
        let b = bounded w.0 w.1 in
        not_it other w.0 w.1
        (nest.in_body (Standing limit s) (order limit s) (one limit s) (lies w.0 w.1 h.part) (tile h k).to (tile h k).stands
        (λ z. out w.0 w.1 (omega arith, omega (arith, ends_with k))) (λ q l r. free w.0 w.1 q l (omega arith)) m n w.2 (omega arith)).1)

    -- framed afresh
    module _ (at : ℕ) (entry : EntryAt v at) where
      again : Afresh limit s hi at v
      again = afresh limit s hi at v there.read entry

      again_over : read_value limit s' at hi ≡ gives again.value
      again_over =
          (value_given_local limit s s' agree.long at hi again.value
          (record {
            wrapper = λ j m n.
                head_same.before j (omega (arith, there.low, again.low))
                (⊎_elim (λ (l : again.value.annotations ≤ at). absurd (omega arith)) (λ (l : again.value.annotations ≤ v.annotations). omega arith) again.wrapper);
            value = λ j m n. head_same.behind j (omega (arith, again.descriptor)) (omega (arith, again.body));
          })
          again.read
          ).0

      past_start : ltb at lo ≡ false
      past_start = le-ltb at lo (omega (arith, (span h k).0, there.low, again.low))

      pub enters_same : step_in limit s lo hi at ≡ step_in limit s' lo hi at
      unfolding step_in value_in
      enters_same = rw (past_start, again.read, again_over)

      as_container : is_container v ≡ true → is_container again.value ≡ true
      unfolding is_container
      as_container c = rw again.byte c

      scalar_same : NoneOf Chosen v → (scalar_of s again.value ≡ scalar_of s' again.value) × (part_of s (scalar_of s again.value) ≡ part_of s' (scalar_of s' again.value))
      scalar_same other =
          by_case (is_container v) (λ q. rw (container_read s u (as_container q), container_read s' u (as_container q)) (refl, refl)) (λ q.
          let same : Same s s' u.body u.end
          = λ j m n. body_kept other (λ x c o. absurd (true≢false (sym o ∙ q))) j (omega (arith, again.body)) (omega (arith, again.end)) in
          (scalar_local s s' agree.long u same, scalar_part_local s s' agree.long u (each_of (value_in_slice limit s at hi) again.read) same))
        where
          u : Spans
          u = again.value

      pub reads_same : NoneOf Chosen v → (read_scalar limit s lo hi at ≡ read_scalar limit s' lo hi at) × (scalar_part limit s lo hi at ≡ scalar_part limit s' lo hi at)
      unfolding read_scalar value_in scalar_part
      reads_same other =
          by_case (out_of_range limit) (λ g. rw g (refl, part_none s 0 ∙ sym (part_none s' 0))) (λ g.
          rw (g, past_start, again.read, again_over) (scalar_same other))

-- ---- and back

swapped : {s s' : List ℕ} {Changed : ℕ → Type 0} → Agree s s' Changed → Agree s' s Changed
swapped h = record { long = sym h.long; same = λ i out. sym (h.same i out) }

module _ (limit : ℕ) (s s' : List ℕ) (lo₀ hi₀ : ℕ) (Chosen : Site → Type 0) (sites : Sites limit s (Rule limit s) lo₀ hi₀ Chosen) (agree : Agree s s' (Over Chosen)) where
  sites' : Sites limit s' (Rule limit s') lo₀ hi₀ Chosen
  sites' = sites_over limit s s' lo₀ hi₀ Chosen sites agree

  agree' : Agree s' s (Over Chosen)
  agree' = swapped agree

  abbrev Reached : Rules → ℕ → ℕ → Type 0
  Reached = EitherPart (ByRules limit s) (ByRules limit s') lo₀ hi₀

  abbrev Called : Rules → ℕ → ℕ → List Stepped → List Stepped → Type 0
  Called = Calls (ByRules limit s) (ByRules limit s') lo₀ hi₀

  pub same_reached : SameReached limit s s' lo₀ hi₀ Chosen
  same_reached =
      record {
        sites = sites';
        parts = λ rules lo hi out.
            (λ pt. reaches limit s s' lo₀ hi₀ Chosen sites agree pt out, λ pt. reaches limit s' s lo₀ hi₀ Chosen sites' agree' pt out);
        hands = λ rules lo hi i out. (hands limit s s' lo₀ hi₀ Chosen sites agree out, hands limit s' s lo₀ hi₀ Chosen sites' agree' out);
        skips = λ rules lo hi p out. (skips limit s s' lo₀ hi₀ Chosen sites agree out, skips limit s' s lo₀ hi₀ Chosen sites' agree' out);
      }

  steps_alike : (rules : Rules) (lo hi : ℕ) → Reached rules lo hi → OutsideAll Chosen lo hi → (rs rs' : List Stepped) → Called rules lo hi rs rs' → rs ≡ rs'
  steps_alike rules lo hi pt out rs rs' c =
      ⊎_elim (λ p. alone limit rules s' (over limit s s' lo₀ hi₀ Chosen sites agree p out c.run) c.run' c.many)
      (λ p. alone limit rules s c.run (over limit s' s lo₀ hi₀ Chosen sites' agree' p out c.run') c.many) pt

  pads_alike : (rules : Rules) (lo hi : ℕ) → Reached rules lo hi → OutsideAll Chosen lo hi → (rs rs' : List Stepped) → Called rules lo hi rs rs' → pads_after limit rules s lo hi rs ≡ pads_after limit rules s' lo hi rs'
  pads_alike rules lo hi pt out rs rs' c =
      let q : rs ≡ rs' = steps_alike rules lo hi pt out rs rs' c in
      ⊎_elim (λ p. pads_same limit s s' lo₀ hi₀ Chosen sites agree p out c.run ∙ ap (pads_after limit rules s' lo hi) q)
      (λ p. ap (pads_after limit rules s lo hi) q ∙ sym (pads_same limit s' s lo₀ hi₀ Chosen sites' agree' p out c.run')) pt

  -- a part that hands one of them out, or skips it, is outside them
  value_held : (t : List ℕ) (rules : Rules) (lo hi : ℕ) {i : Item} {v : Spans} {rs : List Stepped} → ValueOf i v → Chosen (value_site i v) → Run (Answers limit rules t) (cursor lo hi) rs → Memᴰ i (items rs) → OutsideAll Chosen lo hi
  value_held t rules lo hi {i} {v} k c run m =
      let w = tile_span limit t (value_tile limit t rules k run m) in
      holder limit s s' lo₀ hi₀ Chosen sites agree (value_site i v) c w.0 w.1.within

  pad_held : (t : List ℕ) (rules : Rules) (lo hi : ℕ) {p : Pad} {rs : List Stepped} → Chosen (pad_site p) → Run (Answers limit rules t) (cursor lo hi) rs → Memᴰ p (pads_after limit rules t lo hi rs) → OutsideAll Chosen lo hi
  pad_held t rules lo hi {p} c run m =
      let w = tile_span limit t (pad_tile limit t rules run m) in
      holder limit s s' lo₀ hi₀ Chosen sites agree (pad_site p) c w.0 w.1.within

  owner_alike : (rules : Rules) (lo hi : ℕ) → Reached rules lo hi → (i : Item) (v : Spans) → ValueOf i v → Chosen (value_site i v) → (rs rs' : List Stepped) → Called rules lo hi rs rs' → Iff (Memᴰ i (items rs)) (Memᴰ i (items rs'))
  owner_alike rules lo hi pt i v k x rs rs' c = (
    λ m. subst (λ (l : List Stepped). Memᴰ i (items l)) (steps_alike rules lo hi pt (value_held s rules lo hi k x c.run m) rs rs' c) m,
    λ m. subst (λ (l : List Stepped). Memᴰ i (items l)) (sym (steps_alike rules lo hi pt (value_held s' rules lo hi k x c.run' m) rs rs' c)) m,
  )

  pad_alike : (rules : Rules) (lo hi : ℕ) → Reached rules lo hi → (p : Pad) → Chosen (pad_site p) → (rs rs' : List Stepped) → Called rules lo hi rs rs' → Iff (Memᴰ p (pads_after limit rules s lo hi rs)) (Memᴰ p (pads_after limit rules s' lo hi rs'))
  pad_alike rules lo hi pt p x rs rs' c = (
    λ m. subst (Memᴰ p) (pads_alike rules lo hi pt (pad_held s rules lo hi x c.run m) rs rs' c) m,
    λ m. subst (Memᴰ p) (sym (pads_alike rules lo hi pt (pad_held s' rules lo hi x c.run' m) rs rs' c)) m,
  )

pub overwriting : Overwriting
overwriting limit s s' lo₀ hi₀ Chosen sites agree =
    let sites'' = sites' limit s s' lo₀ hi₀ Chosen sites agree in
    let agree'' = agree' limit s s' lo₀ hi₀ Chosen sites agree in (
      same_reached limit s s' lo₀ hi₀ Chosen sites agree,
      record {
        steps = steps_alike limit s s' lo₀ hi₀ Chosen sites agree;
        pads = pads_alike limit s s' lo₀ hi₀ Chosen sites agree;
        annotations = λ rules lo hi v h same rs rs' n run run'.
            annotations_alone limit s s' v.annotations v.descriptor agree.long same (omega arith) run run' n;
        identifiers = λ rules lo hi v h at same r r' a a'. a ∙ annotation_local s s' agree.long at v.descriptor same ∙ sym a';
        kept = λ rules lo hi v h other.
            ⊎_elim (λ x. annotations_kept limit s s' lo₀ hi₀ Chosen sites agree x h.is h.outside other)
            (λ x j m n. sym (annotations_kept limit s' s lo₀ hi₀ Chosen sites'' agree'' x h.is h.outside other j m n)) h.handed;
        enterings = λ rules lo hi v h at entry r r' a a'.
            a
            ∙ ⊎_elim (λ x. enters_same limit s s' lo₀ hi₀ Chosen sites agree x h.is h.outside at entry)
            (λ x. sym (enters_same limit s' s lo₀ hi₀ Chosen sites'' agree'' x h.is h.outside at entry)) h.handed
            ∙ sym a';
        readings = λ rules lo hi v h other at entry r r' a a'.
            a
            ∙ ⊎_elim (λ x. (reads_same limit s s' lo₀ hi₀ Chosen sites agree x h.is h.outside at entry other).0)
            (λ x. sym (reads_same limit s' s lo₀ hi₀ Chosen sites'' agree'' x h.is h.outside at entry other).0) h.handed
            ∙ sym a';
        parts = λ rules lo hi v h other at entry r r' a a'.
            a
            ∙ ⊎_elim (λ x. (reads_same limit s s' lo₀ hi₀ Chosen sites agree x h.is h.outside at entry other).1)
            (λ x. sym (reads_same limit s' s lo₀ hi₀ Chosen sites'' agree'' x h.is h.outside at entry other).1) h.handed
            ∙ sym a';
        owner = owner_alike limit s s' lo₀ hi₀ Chosen sites agree;
        pad = pad_alike limit s s' lo₀ hi₀ Chosen sites agree;
      },
    )
