-- Where tiles stand: what a step finds is led to, from its cursor, by the pads that it passes; so are the items of a run and the pads of a call after it.
-- Assumes nothing.
use Prim.Native.Nat.{ℕ, ◌≤◌, ◌<◌}
use native.Mathlib.Omega.{arith}
use mathlib.Core.Path.{◌≡◌, refl, ◌∙◌, sym, ap, subst}
use mathlib.Core.Bool.{false}
use mathlib.Core.Logic.{⊎_elim}
use mathlib.Core.List.Memᴰ
use mathlib.Core.List.{List, ◌∷◌, Memᴰ}
use Rattle.numbers.specs.Outcome.{Outcome, gives, refuses}
use Rattle.framing.specs.Spans.{Spans}
use Rattle.numbers.proofs.Outcomes.{each_of}
use Rattle.framing.proofs.Bounds.{Ordered, read_value_each}
use Rattle.stepping.specs.Items.{Item, finish, marker, value, field, item_end, Pad}
use Rattle.stepping.specs.Answers.{Tile, skip, hand, tile_at, Found, found, after, Stepped, step_of}
use Rattle.stepping.specs.Runs.{cursor, Answers, Run, none, call, handed_out, items}
use Rattle.runs.specs.Reached.{ValueOf, a_value, a_field, item_start, Part, the_stream, inner, left, pads_after}
use Rattle.runs.specs.Overwritten.{Site, ReachedSite, reached_value, reached_pad}
use Rattle.stepping.specs.declared.cursor.Cursor.{Cursor}
use Rattle.stepping.specs.declared.cursor.Rules.{Rules}
use Rattle.stepping.specs.declared.cursor.Rules.TheVariants.{Stream, Sequence}
use Rattle.stepping.proofs.PadSkipping.{Skipping, at-end, at_pad, at_item, at_refusal, Finds, unranged, unfit, fit, finds}
use Rattle.stepping.proofs.Places.{a_marker, a_value as value_in, a_field as field_in, TileIn, skip_in, hand_in, tile_in}
use Rattle.values.specs.Scalars.{is_container, body_rules}
use Rattle.runs.proofs.Nest as nest
use Rattle.runs.proofs.Nest.{Place, Fits, From, stay, on, Nest, Under}
use Rattle.runs.proofs.ValueLocality.{ValueStands, value_stands}

-- the place of a value; and of what has no annotations and does not open
abbrev pub value_place : Spans → Place
value_place v =
    record {
      annotations = v.annotations;
      descriptor = v.descriptor;
      body = v.body;
      end = v.end;
      rules = body_rules v;
      opens = is_container v;
    }

abbrev pub closed_place : ℕ → ℕ → Place
closed_place b e = record { annotations = b; descriptor = b; body = b; end = e; rules = Sequence; opens = false }

abbrev pub place_of : Tile → Place
place_of (skip b e) = closed_place b e
place_of (hand (finish p)) = closed_place p p
place_of (hand (marker a x y e)) = closed_place e e
place_of (hand (value v)) = value_place v
place_of (hand (field id a v)) = value_place v

-- the site of a tile that begins at a
abbrev pub site_of : ℕ → Place → Site
site_of a z = record { start = a; annotations = z.annotations; descriptor = z.descriptor; body = z.body; end = z.end }

pub place_end : (i : Item) → (place_of (hand i)).end ≡ item_end i
place_end (finish p) = refl
place_end (marker a x y e) = refl
place_end (value v) = refl
place_end (field id a v) = refl

pub value-place : {i : Item} {v : Spans} → ValueOf i v → place_of (hand i) ≡ value_place v
value-place a_value = refl
value-place a_field = refl

-- in a part of these rules that ends at hi, a tile of the map s with this place begins at p
pub record Standing (limit : ℕ) (s : List ℕ) (rules : Rules) (hi p : ℕ) (x : Place) : Type 0 where
  pub tile : Tile
  pub before : p < hi
  pub is : tile_at limit rules s p hi ≡ gives tile
  pub place : x ≡ place_of tile

-- it lies in the part, past p
value_fits : {limit : ℕ} {s : List ℕ} {p hi : ℕ} {i : Item} {v : Spans} → ValueStands limit s hi p i v → Fits hi p (value_place v)
value_fits {limit} {s} {p} {hi} {v = v} w =
    let o : Ordered v.start hi v = each_of (read_value_each limit s v.start hi) w.read in
    record {
      low = omega (arith, w.low, o.annotated);
      annotated = o.described;
      described = omega (arith, o.bodied);
      begins = omega (arith, w.low, o.annotated, o.described, o.bodied);
      order = o.ended;
      within = o.within;
    }

closed_fits : {p hi b e : ℕ} → p < b → b ≤ e → e ≤ hi → Fits hi p (closed_place b e)
closed_fits l m n = record { low = omega arith; annotated = omega arith; described = omega arith; begins = l; order = m; within = n }

tile_fits : (limit : ℕ) (s : List ℕ) (rules : Rules) {p hi : ℕ} {t : Tile} → TileIn p hi t → tile_at limit rules s p hi ≡ gives t → Fits hi p (place_of t)
tile_fits limit s rules (skip_in l m n) q = closed_fits l m n
tile_fits limit s rules (hand_in (a_marker l m)) q = closed_fits l (omega arith) m
tile_fits limit s rules {p} {hi} (hand_in (value_in v)) q = value_fits (value_stands limit rules s p hi a_value q)
tile_fits limit s rules {p} {hi} (hand_in (field_in v)) q = value_fits (value_stands limit rules s p hi a_field q)

pub order : (limit : ℕ) (s : List ℕ) (rules : Rules) (hi p : ℕ) (x : Place) → Standing limit s rules hi p x → Fits hi p x
order limit s rules hi p x t = subst (Fits hi p) (sym t.place) (tile_fits limit s rules (tile_in limit rules s p hi t.is) t.is)

pub one : (limit : ℕ) (s : List ℕ) (rules : Rules) (hi p : ℕ) (x y : Place) → Standing limit s rules hi p x → Standing limit s rules hi p y → x ≡ y
one limit s rules hi p x y t u =
    let q : gives t.tile ≡ gives u.tile = sym t.is ∙ u.is in
    let r : t.tile ≡ u.tile = cc in
    t.place ∙ ap place_of r ∙ sym u.place

stands : (limit : ℕ) (s : List ℕ) (rules : Rules) (hi p : ℕ) (t : Tile) → p < hi → tile_at limit rules s p hi ≡ gives t → Standing limit s rules hi p (place_of t)
stands limit s rules hi p t h q = record { tile = t; before = h; is = q; place = refl }

-- ---- where an answer leads

module _ (limit : ℕ) (s : List ℕ) where
  abbrev pub To : Rules → ℕ → ℕ → ℕ → Type 0
  To = From (Standing limit s)

  -- an answer from p: an item that stands at a place led to, the end, or a refusal
  pub data Hits (rules : Rules) (hi p : ℕ) : Outcome Item → Type 0 where
    an_item : {a : ℕ} {i : Item} → To rules hi p a → a < hi → tile_at limit rules s a hi ≡ gives (hand i) → Hits rules hi p (gives i)
    the_end : To rules hi p hi → Hits rules hi p (gives (finish hi))
    a_refusal : {n q : ℕ} → Hits rules hi p (refuses n q)

  past_pad : {rules : Rules} {hi p b e : ℕ} {o : Outcome Item} → Standing limit s rules hi p (closed_place b e) → Hits rules hi e o → Hits rules hi p o
  past_pad t (an_item f l q) = an_item (on t f) l q
  past_pad t (the_end f) = the_end (on t f)
  past_pad t a_refusal = a_refusal

  skipping_hits : {rules : Rules} {hi p : ℕ} {f : Found} → Skipping limit rules s hi p f → Hits rules hi p f.answer
  skipping_hits at-end = the_end stay
  skipping_hits {rules} {hi} (at_pad {at} {b} {e} l h d) = past_pad (stands limit s rules hi at (skip b e) l h) (skipping_hits d)
  skipping_hits (at_item l h) = an_item stay l h
  skipping_hits (at_refusal l h) = a_refusal

  -- and the cursor that it leaves is led to
  leads : {rules : Rules} {hi p : ℕ} {o : Outcome Item} → Hits rules hi p o → To rules hi p (after (cursor p hi) o).at
  leads {rules} {hi} {p} (an_item {a} {i} f l q) =
      nest.join (Standing limit s) f
      (on (stands limit s rules hi a (hand i) l q) (subst (λ (z : ℕ). To rules hi z (item_end i)) (sym (place_end i)) stay))
  leads (the_end f) = f
  leads a_refusal = stay

  of_finds : {rules : Rules} {c : Cursor} {f : Found} → Finds limit rules s c f → Hits rules c.end c.at f.answer
  of_finds (unranged g) = a_refusal
  of_finds (unfit g h) = a_refusal
  of_finds (fit g l m w) = skipping_hits w

  pub record Called (rules : Rules) (c : Cursor) (r : Stepped) : Type 0 where
    pub hits : Hits rules c.end c.at r.answer
    pub to : To rules c.end c.at r.next.at
    pub kept : r.next.end ≡ c.end

  kept_after : (c : Cursor) (o : Outcome Item) → (after c o).end ≡ c.end
  kept_after c (gives i) = refl
  kept_after c (refuses n p) = refl

  pub called : (rules : Rules) (c : Cursor) (r : Stepped) → Answers limit rules s c r → Called rules c r
  unfolding step_of
  called rules c r a =
      let h : Hits rules c.end c.at (found limit rules s c).answer = of_finds (finds limit rules s c) in
      subst (Called rules c) (sym a)
      (record { hits = h; to = leads h; kept = kept_after c (found limit rules s c).answer })

  -- from what follows a call, to what follows the call before it
  pub from_there : (rules : Rules) (c d : Cursor) {q : ℕ} → d.end ≡ c.end → To rules c.end c.at d.at → To rules d.end d.at q → To rules c.end c.at q
  from_there rules c d {q} h f g = nest.join (Standing limit s) f (subst (λ (z : ℕ). To rules z d.at q) h g)

  -- ---- where the items of a run stand

  pub record ItemStands (rules : Rules) (c : Cursor) (i : Item) : Type 0 where
    pub place : ℕ
    pub to : To rules c.end c.at place
    pub before : place < c.end
    pub is : tile_at limit rules s place c.end ≡ gives (hand i)

  later : (rules : Rules) (c d : Cursor) (i : Item) → d.end ≡ c.end → To rules c.end c.at d.at → ItemStands rules d i → ItemStands rules c i
  later rules c d i h f w =
      record {
        place = w.place;
        to = from_there rules c d h f w.to;
        before = omega (arith, w.before);
        is = subst (λ (z : ℕ). tile_at limit rules s w.place z ≡ gives (hand i)) h w.is;
      }

  this_or_later : (rules : Rules) (c : Cursor) {j : Item} {is : List Item} {i : Item} {a : ℕ} → To rules c.end c.at a → a < c.end → tile_at limit rules s a c.end ≡ gives (hand j) → (Memᴰ i is → ItemStands rules c i) → Memᴰ i (j ∷ is) → ItemStands rules c i
  this_or_later rules c {i = i} {a = a} f l q ih m =
      ⊎_elim (λ e. record { place = a; to = f; before = l; is = subst (λ (x : Item). tile_at limit rules s a c.end ≡ gives (hand x)) (sym e) q }) ih (Memᴰ.cases_cons m)

  item_or_later : (rules : Rules) (c : Cursor) (j : Item) {is : List Item} {i : Item} {a : ℕ} → To rules c.end c.at a → a < c.end → tile_at limit rules s a c.end ≡ gives (hand j) → (Memᴰ i is → ItemStands rules c i) → Memᴰ i (handed_out (gives j) is) → ItemStands rules c i
  item_or_later rules c (finish p) f l q ih m = ih m
  item_or_later rules c (marker a x y e) f l q ih m = this_or_later rules c f l q ih m
  item_or_later rules c (value v) f l q ih m = this_or_later rules c f l q ih m
  item_or_later rules c (field id a v) f l q ih m = this_or_later rules c f l q ih m

  pub item_stands : (rules : Rules) {c : Cursor} {rs : List Stepped} {i : Item} → Run (Answers limit rules s) c rs → Memᴰ i (items rs) → ItemStands rules c i
  item_stands rules none m = elim m [ ]
  item_stands rules {i = i} (call {c} {r} {rs} a run) m =
      let w = called rules c r a in
      go w.hits (λ x. later rules c r.next i w.kept w.to (item_stands rules run x)) m
    where
      go : {o : Outcome Item} → Hits rules c.end c.at o → (Memᴰ i (items rs) → ItemStands rules c i) → Memᴰ i (handed_out o (items rs)) → ItemStands rules c i
      go (an_item {i = j} f l q) ih m = item_or_later rules c j f l q ih m
      go (the_end f) ih m = ih m
      go a_refusal ih m = ih m

  -- and so does whatever a call after a run looks at first
  pub led : (rules : Rules) {c : Cursor} {rs : List Stepped} → Run (Answers limit rules s) c rs → ((left c rs).end ≡ c.end) × To rules c.end c.at (left c rs).at
  led rules none = (refl, stay)
  led rules (call {c} {r} a run) =
      let w = called rules c r a in
      let i = led rules run in
      (i.0 ∙ w.kept, from_there rules c r.next w.kept w.to i.1)

  -- ---- where the pads of a call stand

  pub record PadStands (rules : Rules) (hi at : ℕ) (p : Pad) : Type 0 where
    pub to : To rules hi at p.start
    pub before : p.start < hi
    pub is : tile_at limit rules s p.start hi ≡ gives (skip p.body p.end)

  skipping_pads : (rules : Rules) (hi : ℕ) {at : ℕ} {f : Found} {p : Pad} → Skipping limit rules s hi at f → Memᴰ p f.pads → PadStands rules hi at p
  skipping_pads rules hi at-end m = elim m [ ]
  skipping_pads rules hi (at_item l h) m = elim m [ ]
  skipping_pads rules hi (at_refusal l h) m = elim m [ ]
  skipping_pads rules hi {p = p} (at_pad {at} {b} {e} l h d) m =
      ⊎_elim
      (λ q. subst (PadStands rules hi at) (sym q) (record { to = stay; before = l; is = h }))
      (λ y.
      let w = skipping_pads rules hi d y in
      record { to = on (stands limit s rules hi at (skip b e) l h) w.to; before = w.before; is = w.is })
      (Memᴰ.cases_cons m)

  pub pad_stands : (rules : Rules) (c : Cursor) {p : Pad} → Memᴰ p (found limit rules s c).pads → PadStands rules c.end c.at p
  pad_stands rules c {p} m = go (finds limit rules s c) m
    where
      go : {f : Found} → Finds limit rules s c f → Memᴰ p f.pads → PadStands rules c.end c.at p
      go (unranged g) m = elim m [ ]
      go (unfit g h) m = elim m [ ]
      go (fit g l k w) m = skipping_pads rules c.end w m

  -- ---- parts, values and pads, as places below the stream

  pub item_standing : (rules : Rules) (c : Cursor) {i : Item} {v : Spans} → ValueOf i v → (w : ItemStands rules c i) → Standing limit s rules c.end w.place (value_place v)
  item_standing rules c {i} k w =
      record { tile = hand i; before = w.before; is = w.is; place = sym (value-place k) }

  pub nested : {lo₀ hi₀ lo hi : ℕ} {rules : Rules} → Part (λ r. Answers limit r s) lo₀ hi₀ rules lo hi → Nest (Standing limit s) Stream lo₀ hi₀ rules lo hi
  nested the_stream = nest.whole
  nested (inner {rules} {lo} {hi} pt run m k o) =
      let w = item_stands rules run m in
      nest.inner (nested pt) w.to (item_standing rules (cursor lo hi) k w) o

  -- a tile of the part lo..hi, at a
  pub record TileOf (rules : Rules) (lo hi a : ℕ) (z : Place) : Type 0 where
    pub to : To rules hi lo a
    pub stands : Standing limit s rules hi a z

  -- it lies in the part
  pub tile_span : {rules : Rules} {lo hi a : ℕ} {z : Place} → TileOf rules lo hi a z → (lo ≤ a) × Fits hi a z
  tile_span {rules} {lo} {hi} {a} {z} t =
      (nest.ahead (Standing limit s) (order limit s) (one limit s) t.to, order limit s rules hi a z t.stands)

  -- a value that a run hands out begins where its item does
  pub value_tile : (rules : Rules) {lo hi : ℕ} {rs : List Stepped} {i : Item} {v : Spans} → ValueOf i v → Run (Answers limit rules s) (cursor lo hi) rs → Memᴰ i (items rs) → TileOf rules lo hi (item_start i) (value_place v)
  value_tile rules {lo} {hi} {i = i} {v} k run m =
      let w = item_stands rules run m in
      let q : w.place ≡ item_start i = sym (value_stands limit rules s w.place hi k w.is).starts in
      subst (λ (a : ℕ). TileOf rules lo hi a (value_place v)) q (record { to = w.to; stands = item_standing rules (cursor lo hi) k w })

  pub pad_tile : (rules : Rules) {lo hi : ℕ} {rs : List Stepped} {p : Pad} → Run (Answers limit rules s) (cursor lo hi) rs → Memᴰ p (pads_after limit rules s lo hi rs) → TileOf rules lo hi p.start (closed_place p.body p.end)
  pad_tile rules {lo} {hi} {rs} {p} run m =
      let w = led rules run in
      let z = pad_stands rules (left (cursor lo hi) rs) m in
      record {
        to = from_there rules (cursor lo hi) (left (cursor lo hi) rs) w.0 w.1 z.to;
        stands =
            record {
              tile = skip p.body p.end;
              before = omega (arith, z.before, w.0);
              is = subst (λ (x : ℕ). tile_at limit rules s p.start x ≡ gives (skip p.body p.end)) w.0 z.is;
              place = refl;
            };
      }

  -- the tile of a site
  pub record SiteBelow (lo₀ hi₀ : ℕ) (x : Site) : Type 0 where
    pub place : Place
    pub below : Under (Standing limit s) x.start place Stream lo₀ hi₀
    pub is : x ≡ site_of x.start place

  pub site_below : {lo₀ hi₀ : ℕ} {x : Site} → ReachedSite limit s (λ r. Answers limit r s) lo₀ hi₀ x → SiteBelow lo₀ hi₀ x
  site_below (reached_value {rules} {v = v} h k) =
      let t = value_tile rules k h.run h.among in
      record { place = value_place v; below = nest.lift (Standing limit s) (nested h.part) (nest.here t.to t.stands); is = refl }
  site_below (reached_pad {rules} {p = p} h) =
      let t = pad_tile rules h.run h.among in
      record {
        place = closed_place p.body p.end;
        below = nest.lift (Standing limit s) (nested h.part) (nest.here t.to t.stands);
        is = refl;
      }
