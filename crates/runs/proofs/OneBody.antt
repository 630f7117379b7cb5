-- Demand 3's theorem on one body, from that on many: the set is the one value or pad, of which no annotation is overwritten. Of any entries whose runs have
-- their items and pads where they stand, so that it serves for those that the rules define and for the program's own.
-- Assumes nothing.
use Prim.Native.Nat.{ℕ, ◌≤◌, ◌<◌}
use native.Mathlib.Omega.{arith}
use borrow.Author.Tests.{eqb-true, eqb-false}
use mathlib.Core.Path.{◌≡◌, refl, sym, ap, subst}
use mathlib.Core.Logic.{⊎_elim}
use mathlib.Core.List.{List, Memᴰ}
use lib.Dec.{eqb}
use Rattle.numbers.specs.Bytes.{Same}
use Rattle.numbers.proofs.Outcomes.{by_case}
use Rattle.framing.specs.Spans.{Spans}
use Rattle.stepping.specs.Items.{Item, Pad}
use Rattle.stepping.specs.Answers.{Stepped}
use Rattle.stepping.specs.Runs.{cursor, Run, items}
use Rattle.stepping.specs.declared.cursor.Rules.{Rules}
use Rattle.runs.specs.Reached.{ValueOf, item_start, pads_after, ReachedBody, of_value, of_pad, Agree, In, Outside, NotOwner, Entries, ByRules, EitherValue, SameAnswers}
use Rattle.runs.specs.Overwritten.{Site, value_site, pad_site, ReachedSite, reached_value, reached_pad, Sites, Over, in_body, OutsideAll, NoneOf, ValueOutside, SameOutside}
use Rattle.runs.specs.Theorems.{OneBody, StillReached}
use Rattle.runs.proofs.Nest.{Fits}
use Rattle.runs.proofs.Standing.{value_place, closed_place, tile_span, value_tile, pad_tile}
use Rattle.runs.proofs.Overwriting.{overwriting}

-- what a run on the part lo..hi hands out, and what the next call skips, lies in it
pub record Stands {ℓ} (E : Entries {ℓ}) : Type ℓ where
  pub value : (rules : Rules) (lo hi : ℕ) (rs : List Stepped) (i : Item) (v : Spans) → ValueOf i v
      → Run (E.step rules) (cursor lo hi) rs → Memᴰ i (items rs) → (lo ≤ item_start i) × Fits hi (item_start i) (value_place v)
  pub pad : (rules : Rules) (lo hi : ℕ) (rs : List Stepped) (p : Pad)
      → Run (E.step rules) (cursor lo hi) rs → Memᴰ p (pads_after E.limit rules E.map lo hi rs)
      → (lo ≤ p.start) × Fits hi p.start (closed_place p.body p.end)

pub by_rules : (limit : ℕ) (s : List ℕ) → Stands (ByRules limit s)
by_rules limit s =
    record {
      value = λ rules lo hi rs i v k run m. tile_span limit s (value_tile limit s rules k run m);
      pad = λ rules lo hi rs p run m. tile_span limit s (pad_tile limit s rules run m);
    }

-- the set of one
abbrev Only : Site → Site → Type 0
Only x y = y ≡ x

out_all : {x : Site} {a z : ℕ} → Outside x.body x.end a z → OutsideAll (Only x) a z
out_all out y q w =
    let b = ap (λ (t : Site). t.body) q in
    let e = ap (λ (t : Site). t.end) q in
    out (omega arith, omega arith)

over_one : {s s' : List ℕ} (x : Site) → Agree s s' (In x.body x.end) → Agree s s' (Over (Only x))
over_one x agree = record { long = agree.long; same = λ i out. agree.same i (λ m. out (in_body {x = x} refl m)) }

module _ {ℓ} (E E' : Entries {ℓ}) (here : Stands E) (here' : Stands E') (lo₀ hi₀ : ℕ) where
  sites_one : (x : Site) → x.start < x.body → ReachedSite E.limit E.map E.step lo₀ hi₀ x → Sites E.limit E.map E.step lo₀ hi₀ (Only x)
  sites_one x l r =
      record {
        reached = λ y q. subst (ReachedSite E.limit E.map E.step lo₀ hi₀) (sym q) r;
        none_inside = λ y z q q' w.
            let b = ap (λ (t : Site). t.body) q in
            let a = ap (λ (t : Site). t.start) q' in
            omega arith;
      }

  module _ (x : Site) (agree : Agree E.map E'.map (In x.body x.end)) (same : SameOutside E E' lo₀ hi₀ (Only x)) where
    outside : {rules : Rules} {lo hi : ℕ} {v : Spans} → EitherValue E E' lo₀ hi₀ x.body x.end rules lo hi v → ValueOutside E E' lo₀ hi₀ (Only x) rules lo hi v
    outside h = record { item = h.item; handed = h.handed; is = h.is; outside = out_all h.outside }

    others : (v : Spans) → NotOwner x.body x.end v → NoneOf (Only x) v
    others v other y q w =
        let b = ap (λ (t : Site). t.body) q in
        let e = ap (λ (t : Site). t.end) q in
        other (omega arith, omega arith)

    described : {rules : Rules} {lo hi : ℕ} {v : Spans} → EitherValue E E' lo₀ hi₀ x.body x.end rules lo hi v → v.descriptor ≤ v.body
    described {rules} {lo} {hi} {v} h =
        ⊎_elim (λ w. (here.value rules lo hi w.calls h.item v h.is w.run w.among).1.described)
        (λ w. (here'.value rules lo hi w.calls h.item v h.is w.run w.among).1.described) h.handed

    -- the annotations of the owner stand before its body, and those of any other stay
    annotated : (rules : Rules) (lo hi : ℕ) (v : Spans) → EitherValue E E' lo₀ hi₀ x.body x.end rules lo hi v → Same E.map E'.map v.annotations v.descriptor
    annotated rules lo hi v h =
        by_case (eqb v.body x.body)
        (λ q j m n. agree.same j (λ w. omega (arith, described h, eqb-true v.body x.body q)))
        (λ q. same.kept rules lo hi v (outside h) (others v (λ w. eqb-false v.body x.body q w.0)))

    owner_out : (F : Entries {ℓ}) → Stands F → (rules : Rules) (lo hi : ℕ) (rs : List Stepped) (i : Item) (v : Spans) → ValueOf i v → v.body ≡ x.body → v.end ≡ x.end → Run (F.step rules) (cursor lo hi) rs → Memᴰ i (items rs) → OutsideAll (Only x) lo hi
    owner_out F there rules lo hi rs i v k b e run m =
        let w = there.value rules lo hi rs i v k run m in
        let f = w.1 in
        out_all (λ z. omega arith)

    pad_out : (F : Entries {ℓ}) → Stands F → (rules : Rules) (lo hi : ℕ) (rs : List Stepped) (p : Pad) → p.body ≡ x.body → p.end ≡ x.end → Run (F.step rules) (cursor lo hi) rs → Memᴰ p (pads_after F.limit rules F.map lo hi rs) → OutsideAll (Only x) lo hi
    pad_out F there rules lo hi rs p b e run m =
        let w = there.pad rules lo hi rs p run m in
        let f = w.1 in
        out_all (λ z. omega arith)

    one_of : SameAnswers E E' lo₀ hi₀ x.body x.end
    one_of =
        record {
          steps = λ rules lo hi pt out. same.steps rules lo hi pt (out_all out);
          pads = λ rules lo hi pt out. same.pads rules lo hi pt (out_all out);
          annotations = λ rules lo hi v h. same.annotations rules lo hi v (outside h) (annotated rules lo hi v h);
          enterings = λ rules lo hi v h. same.enterings rules lo hi v (outside h);
          readings = λ rules lo hi v h other. same.readings rules lo hi v (outside h) (others v other);
          parts = λ rules lo hi v h other. same.parts rules lo hi v (outside h) (others v other);
          owner = λ rules lo hi pt i v k b e rs rs' c. (
            λ m. subst (λ (l : List Stepped). Memᴰ i (items l)) (same.steps rules lo hi pt (owner_out E here rules lo hi rs i v k b e c.run m) rs rs' c) m,
            λ m. subst (λ (l : List Stepped). Memᴰ i (items l)) (sym (same.steps rules lo hi pt (owner_out E' here' rules lo hi rs' i v k b e c.run' m) rs rs' c)) m,
          );
          pad = λ rules lo hi pt p b e rs rs' c. (
            λ m. subst (Memᴰ p) (same.pads rules lo hi pt (pad_out E here rules lo hi rs p b e c.run m) rs rs' c) m,
            λ m. subst (Memᴰ p) (sym (same.pads rules lo hi pt (pad_out E' here' rules lo hi rs' p b e c.run' m) rs rs' c)) m,
          );
        }

  -- a body is that of a site
  pub by_site : (P : ℕ → ℕ → Type ℓ) → ((x : Site) → x.start < x.body → ReachedSite E.limit E.map E.step lo₀ hi₀ x → P x.body x.end) → {b e : ℕ} → ReachedBody E.limit E.map E.step lo₀ hi₀ b e → P b e
  by_site P f (of_value {rules} {lo} {hi} {i} {v} h k) =
      f (value_site i v) (here.value rules lo hi h.calls i v k h.run h.among).1.begins (reached_value h k)
  by_site P f (of_pad {rules} {lo} {hi} {rs} {p} pt run m) =
      f (pad_site p) (here.pad rules lo hi rs p run m).1.begins (reached_pad (record { part = pt; calls = rs; run = run; among = m }))

  -- from a theorem on many to that on one
  pub one_of_many : ((Chosen : Site → Type 0) → Sites E.limit E.map E.step lo₀ hi₀ Chosen → Agree E.map E'.map (Over Chosen) → SameOutside E E' lo₀ hi₀ Chosen) → {b e : ℕ} → ReachedBody E.limit E.map E.step lo₀ hi₀ b e → Agree E.map E'.map (In b e) → SameAnswers E E' lo₀ hi₀ b e
  one_of_many many =
      by_site (λ b e. Agree E.map E'.map (In b e) → SameAnswers E E' lo₀ hi₀ b e) (λ x l r agree.
      one_of x agree (many (Only x) (sites_one x l r) (over_one x agree)))

pub one_body : OneBody
one_body limit s s' lo₀ hi₀ b e =
    one_of_many (ByRules limit s) (ByRules limit s') (by_rules limit s) (by_rules limit s') lo₀ hi₀
    (λ Chosen sites agree. (overwriting limit s s' lo₀ hi₀ Chosen sites agree).1)

-- ---- the body is reached on the second map too

body_of : {limit : ℕ} {s : List ℕ} {lo₀ hi₀ : ℕ} {x : Site} → ReachedSite limit s (ByRules limit s).step lo₀ hi₀ x → ReachedBody limit s (ByRules limit s).step lo₀ hi₀ x.body x.end
body_of (reached_value h k) = of_value h k
body_of (reached_pad h) = of_pad h.part h.run h.among

pub still_reached : StillReached
still_reached limit s s' lo₀ hi₀ b e =
    by_site E E' (by_rules limit s) (by_rules limit s') lo₀ hi₀
    (λ b e. Agree s s' (In b e) → ReachedBody limit s' (ByRules limit s').step lo₀ hi₀ b e) (λ x l r agree.
    body_of ((overwriting limit s s' lo₀ hi₀ (Only x) (sites_one E E' (by_rules limit s) (by_rules limit s') lo₀ hi₀ x l r) (over_one x agree)).0.sites.reached x refl))
  where
    E : Entries {0}
    E = ByRules limit s

    E' : Entries {0}
    E' = ByRules limit s'
