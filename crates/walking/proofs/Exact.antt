-- The theorems of specs/Theorems.antt: what is left of the walk at each state is its next answer and what is left behind that.
-- Assumes nothing.
use Prim.Native.Nat.{ℕ, zero, suc, ◌-◌, ◌≤◌, ◌<◌}
use native.Mathlib.Omega.{arith}
use borrow.Author.Tests.{eqb-false, ne_eqb}
use mathlib.Core.Path.{◌≡◌, refl, ◌∙◌, sym, ap, subst}
use mathlib.Core.Bool.{Bool, true, false}
use mathlib.Core.List.{List, [], ◌∷◌}
use lib.ListN.{length, get_or, set, take, length-set}
use lib.Seq.{get_or-set_same, get_or-set_other, take-nil}
use lib.Dec.{eqb}
use Rattle.numbers.specs.Outcome.{Outcome, gives, refuses, pick}
use Rattle.numbers.proofs.Outcomes.{by_case}
use Rattle.framing.specs.Spans.{Spans}
use Rattle.stepping.specs.Items.{Item, finish, value, field}
use Rattle.stepping.specs.declared.cursor.Rules.TheVariants.{Stream}
use Rattle.stepping.proofs.Places.{ValueIn, ItemIn, a_marker, a_value, a_field}
use Rattle.stepping.proofs.Moves.{Moves, ends, hands, stops, moves}
use Rattle.walking.specs.Walk.{limits_out, parts as most_parts, Visit, visit, behind, following, whole_walk}
use Rattle.walking.specs.Calls.{no_part, start_of, end_at, rules_at, or_above, seek, moved_to, state_after_value, state_after_visit, visit_of, calls, state_after, items_in}
use Rattle.stepping.specs.Leaving.{is_last}
use Rattle.values.specs.Scalars.{is_container, body_rules, type_of}
use Rattle.walking.specs.Private.State.{rules_by}
use Rattle.walking.specs.Theorems.{Exact, NeverOutside}
use Rattle.walking.specs.declared.walk.Part.{Part}
use Rattle.walking.specs.declared.walk.Walk.{Walk}
use Rattle.walking.proofs.Depths.{in_limit, depth_room}
use Rattle.walking.proofs.Seeking.{visit_unranged, visit_seek, visit_barred}
use Rattle.walking.proofs.Unrolled.{full, unrolled}

-- a part of a list of them, and its end
abbrev part : List Part → ℕ → Part
part ps d = get_or ps d no_part

abbrev end : List Part → ℕ → ℕ
end ps d = (part ps d).end

-- the ends of the parts of depth 0 to d lie in each other and in the map
abbrev Nested : List ℕ → List Part → ℕ → Type 0
Nested s ps zero = end ps 0 ≤ length s
Nested s ps (suc d) = (end ps (suc d) ≤ end ps d) × Nested s ps d

nested_in : (s : List ℕ) (ps : List Part) (d : ℕ) → Nested s ps d → end ps d ≤ length s
nested_in s ps zero n = n
nested_in s ps (suc d) n = omega (arith, n.0, nested_in s ps d n.1)

nested_same : (s : List ℕ) (ps ps' : List Part) (d : ℕ) → ((i : ℕ) → i ≤ d → part ps i ≡ part ps' i) → Nested s ps d → Nested s ps' d
nested_same s ps ps' zero h n = omega (arith, n, ap (λ (p : Part). p.end) (h 0 (omega arith)))
nested_same s ps ps' (suc d) h n =
    let e = ap (λ (p : Part). p.end) (h (suc d) (omega arith)) in
    let f = ap (λ (p : Part). p.end) (h d (omega arith)) in
    (omega (arith, n.0, e, f), nested_same s ps ps' d (λ i l. h i (omega arith)) n.1)

-- a state that a walk from the start reaches
record Fit (deepest : ℕ) (s : List ℕ) (w : Walk) : Type 0 where
  depth : w.depth ≤ deepest
  parts : length w.parts ≡ most_parts
  at : w.at ≤ end_at w w.depth
  nested : Nested s w.parts w.depth

module _ (limit deepest : ℕ) (s : List ℕ) (ranged : limits_out limit deepest ≡ false) where
  -- what comes behind the part of depth d, and what is left at `at` in it
  unfoldable outer : List Part → ℕ → List Visit
  outer ps zero = visit 0 (gives (finish (end ps 0))) ∷ []
  outer ps (suc d) = full limit deepest s (rules_by d (part ps d).fields) d (end ps d) (end ps (suc d)) (outer ps d)

  abbrev remain : List Part → ℕ → ℕ → List Visit
  remain ps d at = full limit deepest s (rules_by d (part ps d).fields) d (end ps d) at (outer ps d)

  outer_same : (ps ps' : List Part) (d : ℕ) → ((i : ℕ) → i ≤ d → part ps i ≡ part ps' i) → outer ps d ≡ outer ps' d
  unfolding outer
  outer_same ps ps' zero h = ap (λ (p : Part). visit 0 (gives (finish p.end)) ∷ []) (h 0 (omega arith))
  outer_same ps ps' (suc d) h =
      ap (λ (p : Part). full limit deepest s (rules_by d p.fields) d p.end (end ps (suc d)) (outer ps d)) (h d (omega arith))
      ∙ ap (λ (p : Part). full limit deepest s (rules_by d (part ps' d).fields) d (end ps' d) p.end (outer ps d)) (h (suc d) (omega arith))
      ∙ ap (full limit deepest s (rules_by d (part ps' d).fields) d (end ps' d) (end ps' (suc d))) (outer_same ps ps' d (λ i l. h i (omega arith)))

  -- what is left at a state
  abbrev left : Walk → List Visit
  left w = pick w.deep (visit w.depth (refuses 37 w.at) ∷ []) (remain w.parts w.depth w.at)

  -- what is left is an answer and what is left behind it, at a state that the walk reaches; and the answer is not 50
  record Goes (w : Walk) (xs : List Visit) (v : Visit) : Type 0 where
    list : xs ≡ v ∷ pick (is_last v.answer) [] (left (state_after_visit deepest w v))
    fit : Fit deepest s (state_after_visit deepest w v)
    other : (p : ℕ) → v.answer ≡ refuses 50 p → ⊥

  gives_other : {i : Item} (p : ℕ) → ◌≡◌ {A = Outcome Item} (gives i) (refuses 50 p) → ⊥
  gives_other p e = absurd (let z : ◌≡◌ {A = ℕ} 0 1 = cc in omega arith)

  module _ (w : Walk) (fit : Fit deepest s w) (d : ℕ) (l : d ≤ deepest) (n : Nested s w.parts d) where
    moved : (at : ℕ) (deep : Bool) → at ≤ end_at w d → Fit deepest s (moved_to w d at deep)
    moved at deep k = record { depth = l; parts = fit.parts; at = k; nested = n }

    -- the parts up to d are the same in the state of a container's body
    kept : (p : Part) (i : ℕ) → i ≤ d → part w.parts i ≡ part (set w.parts (suc d) p) i
    kept p i k = sym (get_or-set_other w.parts (suc d) i p no_part (λ q. omega arith))

    abbrev onward : ℕ → List Visit
    onward e = full limit deepest s (rules_by d (part w.parts d).fields) d (end_at w d) e (outer w.parts d)

    abbrev body_part : Spans → Part
    body_part v = record { end = v.end; fields = eqb (type_of v) 13 }

    abbrev entered : Spans → Walk
    entered v = record { parts = set w.parts (suc d) (body_part v); depth = suc d; at = v.body; deep = false }

    new_part : (p : Part) → d < deepest → part (set w.parts (suc d) p) (suc d) ≡ p
    new_part p b = get_or-set_same w.parts (suc d) p no_part (omega (arith, fit.parts, depth_room limit deepest ranged))

    outer_below : (ps : List Part) → ((i : ℕ) → i ≤ d → part w.parts i ≡ part ps i) → full limit deepest s (rules_by d (part w.parts d).fields) d (end w.parts d) (end ps (suc d)) (outer w.parts d) ≡ outer ps (suc d)
    unfolding outer
    outer_below ps h =
        ap (λ (x : Part). full limit deepest s (rules_by d x.fields) d x.end (end ps (suc d)) (outer w.parts d)) (h d (omega arith))
        ∙ ap (full limit deepest s (rules_by d (part ps d).fields) d (end ps d) (end ps (suc d))) (outer_same w.parts ps d h)

    enters : (v : Spans) → d < deepest → full limit deepest s (body_rules v) (suc d) v.end v.body (onward v.end) ≡ left (entered v)
    unfolding outer
    enters v b =
        let p = body_part v in
        let ps = set w.parts (suc d) p in
        let z : eqb (suc d) 0 ≡ false = ne_eqb (suc d) 0 (λ q. omega arith) in
        let e : full limit deepest s (body_rules v) (suc d) v.end v.body (onward v.end) ≡ full limit deepest s (rules_by (suc d) p.fields) (suc d) p.end v.body (full limit deepest s (rules_by d (part w.parts d).fields) d (end w.parts d) p.end (outer w.parts d)) = rw z in
        e
        ∙ ap (λ (x : Part). full limit deepest s (rules_by (suc d) x.fields) (suc d) x.end v.body (full limit deepest s (rules_by d (part w.parts d).fields) d (end w.parts d) x.end (outer w.parts d))) (sym (new_part p b))
        ∙ ap (full limit deepest s (rules_by (suc d) (part ps (suc d)).fields) (suc d) (end ps (suc d)) v.body) (outer_below ps (kept p))

    enters_fit : (v : Spans) → d < deepest → v.body ≤ v.end → v.end ≤ end_at w d → Fit deepest s (entered v)
    enters_fit v b i k =
        let p = body_part v in
        let e = ap (λ (x : Part). x.end) (new_part p b) in
        let f = ap (λ (x : Part). x.end) (kept p d (omega arith)) in
        record {
          depth = b;
          parts = length-set w.parts (suc d) p ∙ fit.parts;
          at = omega (arith, i, e);
          nested = (omega (arith, k, e, f), nested_same s w.parts (set w.parts (suc d) p) d (kept p) n);
        }

    -- behind a value
    at_value : {at : ℕ} (v : Spans) → ValueIn at (end_at w d) v → (t u : Bool) → eqb d deepest ≡ u → (pick t (pick u (visit d (refuses 37 v.descriptor) ∷ []) (full limit deepest s (body_rules v) (suc d) v.end v.body (onward v.end))) (onward v.end) ≡ left (pick t (pick u (moved_to w d v.descriptor true) (entered v)) (moved_to w d v.end false))) × Fit deepest s (pick t (pick u (moved_to w d v.descriptor true) (entered v)) (moved_to w d v.end false))
    at_value v i true true e = (refl, moved v.descriptor true (omega (arith, i.bodied, i.ended, i.within)))
    at_value v i true false e =
        let b : d < deepest = omega (arith, eqb-false d deepest e) in
        (enters v b, enters_fit v b i.ended i.within)
    at_value v i false u e = (refl, moved v.end false i.within)

    behind_value : {at : ℕ} (v : Spans) → ValueIn at (end_at w d) v → (behind deepest d v (full limit deepest s) onward ≡ left (state_after_value deepest w d v)) × Fit deepest s (state_after_value deepest w d v)
    unfolding state_after_value
    behind_value v i = at_value v i (is_container v) (eqb d deepest) refl

    abbrev follows : Outcome Item → List Visit
    follows o = following deepest d (outer w.parts d) (full limit deepest s) onward o

    handed : {at : ℕ} {i : Item} → ItemIn at (end_at w d) i → Goes w (follows (gives i)) (visit d (gives i))
    handed (a_marker {e = e} p q) = record { list = refl; fit = moved e false q; other = gives_other }
    handed (a_value {v} i) =
        let b = behind_value v i in
        record { list = ap (λ (z : List Visit). visit d (gives (value v)) ∷ z) b.0; fit = b.1; other = gives_other }
    handed (a_field {id} {a} {v} i) =
        let b = behind_value v i in
        record { list = ap (λ (z : List Visit). visit d (gives (field id a v)) ∷ z) b.0; fit = b.1; other = gives_other }

    stopped : {m p : ℕ} → (m ≡ 50 → ⊥) → Goes w (follows (refuses m p)) (visit d (refuses m p))
    stopped {m} x = record { list = refl; fit = fit; other = λ q e. x (let z : m ≡ 50 = cc in z) }

  -- from a place in the part of depth d
  goes : (w : Walk) → Fit deepest s w → (d at : ℕ) → d ≤ deepest → at ≤ end_at w d → Nested s w.parts d → Goes w (remain w.parts d at) (seek limit s w d at)
  unfolding seek outer
  goes w fit zero at l k n =
      let g = go (moves limit Stream s (end_at w 0) n at k) in
      record { list = unrolled limit deepest s (in_limit limit deepest ranged) Stream 0 (end_at w 0) at (outer w.parts 0) k n ∙ g.list; fit = g.fit; other = g.other }
    where
      go : {o : Outcome Item} → Moves at (end_at w 0) o → Goes w (follows w fit 0 l n o) (visit 0 o)
      go ends = record { list = refl; fit = moved w fit 0 l n (end_at w 0) false (omega arith); other = gives_other }
      go (hands i) = handed w fit 0 l n i
      go (stops x) = stopped w fit 0 l n x
  goes w fit (suc d) at l k n =
      let m : end_at w (suc d) ≤ length s = nested_in s w.parts (suc d) n in
      let g = go (goes w fit d (end_at w (suc d)) (omega arith) n.0 n.1) (moves limit (rules_at w (suc d)) s (end_at w (suc d)) m at k) in
      record { list = unrolled limit deepest s (in_limit limit deepest ranged) (rules_at w (suc d)) (suc d) (end_at w (suc d)) at (outer w.parts (suc d)) k m ∙ g.list; fit = g.fit; other = g.other }
    where
      go : {o : Outcome Item} → Goes w (remain w.parts d (end_at w (suc d))) (seek limit s w d (end_at w (suc d))) → Moves at (end_at w (suc d)) o → Goes w (follows w fit (suc d) l n o) (or_above (suc d) (seek limit s w d) o)
      go ih ends = ih
      go ih (hands (a_marker p q)) = handed w fit (suc d) l n (a_marker p q)
      go ih (hands (a_value i)) = handed w fit (suc d) l n (a_value i)
      go ih (hands (a_field i)) = handed w fit (suc d) l n (a_field i)
      go ih (stops x) = stopped w fit (suc d) l n x

  -- from a state
  left_deep : (w : Walk) → w.deep ≡ true → left w ≡ visit w.depth (refuses 37 w.at) ∷ []
  left_deep w h = rw h

  left_in : (w : Walk) → w.deep ≡ false → remain w.parts w.depth w.at ≡ left w
  left_in w h = rw h

  next : (w : Walk) → Fit deepest s w → Goes w (left w) (visit_of limit deepest s w)
  next w fit =
      by_case w.deep
      (λ h.
      subst (Goes w (left w)) (sym (visit_barred limit deepest s w ranged fit.depth h fit.at (nested_in s w.parts w.depth fit.nested)))
      (record { list = left_deep w h; fit = fit; other = λ p q. absurd (let z : ◌≡◌ {A = ℕ} 37 50 = cc in omega arith) }))
      (λ h.
      subst (Goes w (left w)) (sym (visit_seek limit deepest s w ranged fit.depth h))
      (subst (λ (xs : List Visit). Goes w xs (seek limit s w w.depth w.at)) (left_in w h) (goes w fit w.depth w.at fit.depth fit.at fit.nested)))

  called : (n : ℕ) (w : Walk) → Fit deepest s w → calls limit deepest n s w ≡ take n (left w)
  unfolding calls
  called zero w fit = refl
  called (suc n) w fit =
      let g = next w fit in
      let v = visit_of limit deepest s w in
      ap (λ (xs : List Visit). v ∷ xs) (ending (is_last v.answer) (left (state_after_visit deepest w v)) (called n (state_after_visit deepest w v) g.fit)) ∙ sym (ap (take (suc n)) g.list)
    where
      ending : (t : Bool) {xs : List Visit} (ys : List Visit) → xs ≡ take n ys → pick t [] xs ≡ take n (pick t [] ys)
      ending true ys h = sym (take-nil n)
      ending false ys h = h

  start_fit : Fit deepest s (start_of s)
  start_fit = record { depth = omega arith; parts = refl; at = omega arith; nested = omega arith }

  start_left : left (start_of s) ≡ whole_walk limit deepest s
  unfolding whole_walk full outer
  start_left = let z : length s - 0 ≡ length s = omega arith in rw (ranged, z)

  fit_after : (n : ℕ) (w : Walk) → Fit deepest s w → Fit deepest s (state_after limit deepest n s w)
  fit_after zero w fit = fit
  fit_after (suc n) w fit = fit_after n (state_after_visit deepest w (visit_of limit deepest s w)) (next w fit).fit

-- with limits that are none, 68 alone
refused_exact : (limit deepest : ℕ) (s : List ℕ) → limits_out limit deepest ≡ true → (n : ℕ) → calls limit deepest n s (start_of s) ≡ take n (whole_walk limit deepest s)
unfolding calls visit_of whole_walk
refused_exact limit deepest s g zero = refl
refused_exact limit deepest s g (suc n) = rw g (ap (λ (xs : List Visit). visit 0 (refuses 68 0) ∷ xs) (sym (take-nil n)))

refused_other : (limit deepest : ℕ) (s : List ℕ) (w : Walk) → limits_out limit deepest ≡ true → (p : ℕ) → (visit_of limit deepest s w).answer ≡ refuses 50 p → ⊥
refused_other limit deepest s w g p e =
    let q : ◌≡◌ {A = Outcome Item} (refuses 68 0) (refuses 50 p) = sym (ap (λ (v : Visit). v.answer) (visit_unranged limit deepest s w g)) ∙ e in
    absurd (let z : ◌≡◌ {A = ℕ} 68 50 = cc in omega arith)

pub exact : Exact
exact limit deepest s n =
    by_case (limits_out limit deepest) (λ g. refused_exact limit deepest s g n) (λ g.
    called limit deepest s g n (start_of s) (start_fit limit deepest s g) ∙ ap (take n) (start_left limit deepest s g))

pub never_outside : NeverOutside
never_outside limit deepest s n p =
    by_case (limits_out limit deepest) (λ g. refused_other limit deepest s (state_after limit deepest n s (start_of s)) g p) (λ g.
    (next limit deepest s g (state_after limit deepest n s (start_of s)) (fit_after limit deepest s g n (start_of s) (start_fit limit deepest s g))).other p)

-- the items counted from the start; none where a limit is none
pub counted : (limit deepest : ℕ) (s : List ℕ) (n : ℕ) → items_in (calls limit deepest n s (start_of s)) ≡ items_in (take n (whole_walk limit deepest s))
counted limit deepest s n = ap items_in (exact limit deepest s n)

pub uncounted : (limit deepest : ℕ) (s : List ℕ) → limits_out limit deepest ≡ true → (n : ℕ) → items_in (take n (whole_walk limit deepest s)) ≡ 0
unfolding whole_walk
uncounted limit deepest s g zero = refl
uncounted limit deepest s g (suc n) = rw g

pub ruleset from_start = (counted, uncounted)
