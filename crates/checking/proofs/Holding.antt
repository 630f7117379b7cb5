-- The counts by the bytes: what a step skips and hands out is of the document, one behind the other up to the part's end, and so is what the bodies of its
-- containers hold. By induction on the bytes that a check goes.
-- Assumes nothing.
use Prim.Native.Nat.{ℕ, zero, suc, ◌+◌, ◌-◌, ◌≤◌, ◌<◌}
use native.Mathlib.Omega.{arith}
use mathlib.Core.Path.{◌≡◌, refl, ◌∙◌, sym, ap, subst}
use mathlib.Core.Bool.{true, false}
use mathlib.Core.List.{List}
use lib.ListN.{length, get_or, length-replicate, get_or-replicate}
use lib.Dec.{ltb, eqb}
use Rattle.numbers.specs.Outcome.{Outcome, gives, refuses, pick, and_then}
use Rattle.numbers.proofs.Outcomes.{by_case, refuse_gives, then_gives, each_of}
use Rattle.framing.specs.Spans.{Spans}
use Rattle.stepping.specs.Items.{Item, finish, marker, value, field, Pad}
use Rattle.stepping.specs.Answers.{found, step_of}
use Rattle.stepping.specs.Format.{ItemAt}
use Rattle.stepping.specs.Meaning.{ItemWithin, Skips, arrived, passed, Stands, the_end, the_item, refused_there, no_part, no_limit}
use Rattle.stepping.specs.Runs.{cursor}
use Rattle.stepping.specs.declared.cursor.Rules.{Rules}
use Rattle.stepping.specs.declared.cursor.Rules.TheVariants.{Stream}
use Rattle.stepping.proofs.Soundness.{steps-sound}
use Rattle.stepping.proofs.Places.{ValueIn}
use Rattle.values.specs.Scalars.{is_container, body_rules}
use Rattle.runs.specs.Reached.{ValueOf, a_value, a_field}
use Rattle.walking.specs.Walk.{limits_out}
use Rattle.checking.specs.Counts.{markers, pads, place_of, none, counting}
use Rattle.checking.specs.Reading.{Done, done, read_item}
use Rattle.checking.specs.Check.{Parts, least_room, inside_of, value_check, on_answer, on_found, part_check, whole_check}
use Rattle.checking.specs.WalkRead.{one}
use Rattle.checking.specs.Held.{Held, nothing, a_pad, a_marker, a_scalar, a_container}
use Rattle.checking.specs.Theorems.{CountsHeld}
use Rattle.checking.proofs.Places.{Lies, lies_earlier, found_behind, no_end}
use Rattle.checking.proofs.Tallies.{counting_length, counting_at, Kept, EachPart, part_kept}

-- ---- what a check that gives counts of has

pub inside_done : (P : Parts) (room : ℕ) (v : Spans) (c : List ℕ) {c' : List ℕ} (d : Done) → inside_of P room v c d ≡ gives c' → inside_of P room v c done ≡ gives c'
inside_done P room v c done h = h

module _ (limit : ℕ) (s : List ℕ) (i : ℕ) where
  -- the pads that lead to z
  pads_held : (rules : Rules) (hi : ℕ) {at z n : ℕ} {ps : List Pad} → Skips rules s hi at ps z → Held limit s i rules hi z n → Held limit s i rules hi at (pick (eqb i pads) (length ps) 0 + n)
  pads_held rules hi {n = n} (arrived {a}) h =
      subst (Held limit s i rules hi a) (by_case (eqb i pads) (λ e. rw e (omega arith)) (λ e. rw e (omega arith))) h
  pads_held rules hi {n = n} (passed {p} {ps} t w k) h =
      subst (Held limit s i rules hi p.start) (by_case (eqb i pads) (λ e. rw e (omega arith)) (λ e. rw e (omega arith))) (a_pad t w (pads_held rules hi k h))

  -- from `at` on a part holds what its check adds to the count
  pub record Adds (rules : Rules) (hi at : ℕ) (c c' : List ℕ) : Type 0 where
    pub many : ℕ
    pub sum : get_or c' i 0 ≡ get_or c i 0 + many
    pub held : Held limit s i rules hi at many

  -- of the parts of at most k bytes
  abbrev Holds : ℕ → Parts → Type 0
  Holds k P =
      (rules : Rules) (room hi at : ℕ) (c c' : List ℕ) → at ≤ hi → hi ≤ length s → hi - at ≤ k → i < length c → P rules room hi at c ≡ gives c'
      → Adds rules hi at c c'

  module _ (k : ℕ) (P : Parts) (kept : EachPart Kept P) (holds : Holds k P) (rules : Rules) (room hi at : ℕ) (inside : hi ≤ length s) (few : hi - at ≤ suc k) where
    longer : (place n : ℕ) (c : List ℕ) → i < length c → i < length (counting place n c)
    longer place n c l = subst (λ (m : ℕ). i < m) (sym (counting_length place n c)) l

    -- the counts behind a value: its own, and those of its inside
    record ValueAdds (v : Spans) (c c' : List ℕ) : Type 0 where
      long : i < length c'
      behind : (x : Item) (z n : ℕ) (t : ItemAt s hi rules z x) → ItemWithin limit t → ValueOf x v → Held limit s i rules hi v.end n → (m : ℕ) × (get_or c' i 0 + n ≡ get_or c i 0 + m) × Held limit s i rules hi z m

    entered : (v : Spans) (c c' : List ℕ) → ValueIn at hi v → i < length c → is_container v ≡ true → pick (ltb room least_room) (refuses 37 v.descriptor) (P (body_rules v) (room - 1) v.end v.body (counting (place_of v) 1 c)) ≡ gives c' → ValueAdds v c c'
    entered v c c' b l g h =
        by_case (ltb room least_room)
        (λ e. let q : refuses 37 v.descriptor ≡ gives c' = rw e at h in absurd (let z : ◌≡◌ {A = ℕ} 0 1 = cc in omega arith))
        (λ e.
        let d = counting (place_of v) 1 c in
        let q : P (body_rules v) (room - 1) v.end v.body d ≡ gives c' = rw e at h in
        let a : Adds (body_rules v) v.end v.body d c' = holds (body_rules v) (room - 1) v.end v.body d c' b.ended (omega (arith, b.within)) (omega (arith, b.low, b.bodied, b.ended, b.within)) (longer (place_of v) 1 c l) q in
        record {
          long = subst (λ (m : ℕ). i < m) (sym (each_of (kept (body_rules v) (room - 1) v.end v.body d) q)) (longer (place_of v) 1 c l);
          behind = λ x z n t w u r.
              (one i (place_of v) + a.many + n, omega (arith, a.sum, counting_at i (place_of v) 1 c l), a_container t w u g a.held r);
        })

    left : (v : Spans) (c c' : List ℕ) → i < length c → is_container v ≡ false → counting (place_of v) 1 c ≡ c' → ValueAdds v c c'
    left v c c' l g e =
        subst (ValueAdds v c) e
        (record {
          long = longer (place_of v) 1 c l;
          behind = λ x z n t w u r. (one i (place_of v) + n, omega (arith, counting_at i (place_of v) 1 c l), a_scalar t w u g r);
        })

    inside_adds : (v : Spans) (c c' : List ℕ) → ValueIn at hi v → i < length c → inside_of P room v c done ≡ gives c' → ValueAdds v c c'
    inside_adds v c c' b l h =
        by_case (is_container v) (λ g. entered v c c' b l g (rw g at h)) (λ g.
        let q : gives (counting (place_of v) 1 c) ≡ gives c' = rw g at h in
        let e : counting (place_of v) 1 c ≡ c' = cc in
        left v c c' l g e)

    value_adds : (x : Item) (v : Spans) (z : ℕ) (c c' : List ℕ) → (t : ItemAt s hi rules z x) → ItemWithin limit t → ValueOf x v → ValueIn at hi v → i < length c → and_then (value_check s P room v c) (P rules room hi v.end) ≡ gives c' → Adds rules hi z c c'
    unfolding value_check
    value_adds x v z c c' t w u b l h =
        let p = then_gives (value_check s P room v c) (P rules room hi v.end) h in
        let q = then_gives (read_item s v) (inside_of P room v c) p.1 in
        let d = p.0 in
        let a : ValueAdds v c d = inside_adds v c d b l (inside_done P room v c q.0 q.2) in
        let r : Adds rules hi v.end d c' = holds rules room hi v.end d c' b.within inside (omega (arith, b.low, b.bodied, b.ended, b.within)) a.long p.2 in
        let y = a.behind x z r.many t w u r.held in
        record { many = y.0; sum = omega (arith, r.sum, y.1); held = y.2 }

    item_adds : (x : Item) (z : ℕ) (c c' : List ℕ) (t : ItemAt s hi rules z x) → ItemWithin limit t → Lies at hi x → i < length c → on_answer s P (P rules room hi) room c (gives x) ≡ gives c' → Adds rules hi z c c'
    item_adds (finish p) z c c' t w b l h = absurd (no_end t)
    item_adds (marker a x y e) z c c' t w b l h =
        let r : Adds rules hi e (counting markers 1 c) c' = holds rules room hi e (counting markers 1 c) c' b.1 inside (omega (arith, b.0, b.1)) (longer markers 1 c l) h in
        record { many = one i markers + r.many; sum = omega (arith, r.sum, counting_at i markers 1 c l); held = a_marker t w r.held }
    item_adds (value v) z c c' t w b l h = value_adds (value v) v z c c' t w a_value b l h
    item_adds (field id a v) z c c' t w b l h = value_adds (field id a v) v z c c' t w a_field b l h

    answer_adds : {o : Outcome Item} (z : ℕ) (c c' : List ℕ) → Stands limit rules s hi z o → ((x : Item) → o ≡ gives x → Lies at hi x) → i < length c → on_answer s P (P rules room hi) room c o ≡ gives c' → Adds rules hi z c c'
    answer_adds z c c' (the_end q) b l h =
        let e : c ≡ c' = cc in
        record {
          many = 0;
          sum = ap (λ (d : List ℕ). get_or d i 0) (sym e) ∙ (let y : get_or c i 0 ≡ get_or c i 0 + 0 = omega arith in y);
          held = subst (λ (a : ℕ). Held limit s i rules hi a 0) (sym q) nothing;
        }
    answer_adds z c c' (the_item {i = x} t w) b l h = item_adds x z c c' t w (b x refl) l h
    answer_adds z c c' (refused_there p q r) b l h = absurd (let z : ◌≡◌ {A = ℕ} 0 1 = cc in omega arith)
    answer_adds z c c' (no_part q) b l h = absurd (let z : ◌≡◌ {A = ℕ} 0 1 = cc in omega arith)
    answer_adds z c c' (no_limit q) b l h = absurd (let z : ◌≡◌ {A = ℕ} 0 1 = cc in omega arith)

    found_adds : at ≤ hi → (c c' : List ℕ) → i < length c → on_found s P (P rules room hi) room c (found limit rules s (cursor at hi)) ≡ gives c' → Adds rules hi at c c'
    unfolding step_of
    found_adds order c c' l h =
        let f = found limit rules s (cursor at hi) in
        let w = steps-sound limit rules s (cursor at hi) in
        let d = counting pads (length f.pads) c in
        let b = found_behind limit rules s hi at order in
        let a : Adds rules hi w.0 d c' = answer_adds w.0 d c' w.2 (λ x e. lies_earlier at (at + length f.pads) hi x (omega arith) (b.lies x e)) (longer pads (length f.pads) c l) h in
        record {
          many = pick (eqb i pads) (length f.pads) 0 + a.many;
          sum = omega (arith, a.sum, counting_at i pads (length f.pads) c l);
          held = pads_held rules hi w.1 a.held;
        }

  pub part_holds : (k : ℕ) → Holds k (part_check limit k s)
  unfolding part_check
  part_holds zero rules room hi at c c' order inside few l h =
      let e : c ≡ c' = cc in
      let z : at ≡ hi = omega arith in
      record {
        many = 0;
        sum = ap (λ (d : List ℕ). get_or d i 0) (sym e) ∙ (let y : get_or c i 0 ≡ get_or c i 0 + 0 = omega arith in y);
        held = subst (λ (a : ℕ). Held limit s i rules hi a 0) (sym z) nothing;
      }
  part_holds (suc k) rules room hi at c c' order inside few l h =
      found_adds k (part_check limit k s) (part_kept limit s k) (part_holds k) rules room hi at inside few order c c' l h

pub counts-held : CountsHeld
unfolding whole_check
counts-held limit deepest s c h i l =
    let q = refuse_gives (limits_out limit deepest) 68 0 h in
    let k : i < length none = subst (λ (m : ℕ). i < m) (sym (length-replicate {A = ℕ} 15 0)) l in
    let a = part_holds limit s i (length s) Stream deepest (length s) 0 none c (omega arith) (omega arith) (omega arith) k q.1 in
    let e : get_or c i 0 ≡ a.many = omega (arith, a.sum, get_or-replicate {A = ℕ} 15 i 0 0 l) in
    subst (Held limit s i Stream (length s) 0) (sym e) a.held
