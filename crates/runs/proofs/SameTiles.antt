-- Two maps that have the same tiles where those of a part lead: the same pads are passed there, the same is found, and the runs are the same. And what a list
-- of calls answers, of steps or of annotation steps, is one list.
-- Assumes nothing.
use Prim.Native.Nat.{ℕ, ◌≤◌, ◌<◌}
use native.Mathlib.Omega.{arith}
use mathlib.Core.Path.{◌≡◌, refl, ◌∙◌, sym, ap, subst}
use mathlib.Core.List.{List}
use lib.ListN.{length}
use lib.Dec.{eqb}
use Rattle.numbers.specs.Outcome.{Outcome, gives}
use Rattle.numbers.specs.Bytes.{Same}
use Rattle.numbers.proofs.Outcomes.{Each, given, refused, each_within, each_pick, each_then}
use Rattle.numbers.proofs.Meaning.{var_uint_bounded}
use Rattle.numbers.proofs.Locality.{outside_local, looked_high}
use Rattle.framing.specs.Answers.{Annotated, read_annotation}
use Rattle.framing.proofs.Locality.{annotation_local}
use Rattle.stepping.specs.Answers.{Tile, skip, tile_at, Found, found, after, Stepped, step_of}
use Rattle.stepping.specs.Runs.{cursor, Answers, Run, none, call}
use Rattle.stepping.specs.declared.cursor.Cursor.{Cursor}
use Rattle.stepping.specs.declared.cursor.Rules.{Rules}
use Rattle.stepping.proofs.PadSkipping.{Skipping, at-end, at_pad, at_item, at_refusal, Finds, unranged, unfit, fit, finds, of_finds}
use Rattle.runs.specs.Reached.{next_annotation, AnnotationRun, none as no_more, call as one_more, ByRules}
use Rattle.runs.proofs.Nest as nest
use Rattle.runs.proofs.Nest.{stay, on}
use Rattle.runs.proofs.Standing.{Standing, place_of, To, called}

module _ (limit : ℕ) (s s' : List ℕ) (long : length s ≡ length s') (rules : Rules) (lo hi : ℕ) (tiles : (p : ℕ) → To limit s rules hi lo p → p < hi → tile_at limit rules s p hi ≡ tile_at limit rules s' p hi) where
  stand : (p : ℕ) (x : Tile) → p < hi → tile_at limit rules s p hi ≡ gives x → Standing limit s rules hi p (place_of x)
  stand p x l q = record { tile = x; before = l; is = q; place = refl }

  skipping_over : {p : ℕ} {f : Found} → To limit s rules hi lo p → Skipping limit rules s hi p f → Skipping limit rules s' hi p f
  skipping_over g at-end = at-end
  skipping_over g (at_pad {at} {b = x} {e = y} l h d) =
      at_pad l (sym (tiles at g l) ∙ h) (skipping_over (nest.join (Standing limit s) g (on (stand at (skip x y) l h) stay)) d)
  skipping_over g (at_item {at} l h) = at_item l (sym (tiles at g l) ∙ h)
  skipping_over g (at_refusal {at} l h) = at_refusal l (sym (tiles at g l) ∙ h)

  found_over : (at : ℕ) → To limit s rules hi lo at → found limit rules s (cursor at hi) ≡ found limit rules s' (cursor at hi)
  found_over at f = go (finds limit rules s (cursor at hi))
    where
      go : {f : Found} → Finds limit rules s (cursor at hi) f → f ≡ found limit rules s' (cursor at hi)
      go (unranged g) = of_finds limit (unranged g)
      go (unfit g h) = of_finds limit (unfit g (sym (outside_local s s' at hi (long)) ∙ h))
      go (fit g l m w) = of_finds limit (fit g l (omega (arith, long)) (skipping_over f w))

  pub cursor_over : (c : Cursor) → c.end ≡ hi → To limit s rules hi lo c.at → found limit rules s c ≡ found limit rules s' c
  cursor_over c q g =
      let h : cursor c.at hi ≡ c = ap (cursor c.at) (sym q) in
      subst (λ (d : Cursor). found limit rules s d ≡ found limit rules s' d) h (found_over c.at g)

  answers_over : (c : Cursor) (r : Stepped) → c.end ≡ hi → To limit s rules hi lo c.at → Answers limit rules s c r → Answers limit rules s' c r
  unfolding step_of
  answers_over c r q g a = a ∙ ap (λ (f : Found). record { answer = f.answer; next = after c f.answer }) (cursor_over c q g)

  on_to : (c d : Cursor) → c.end ≡ hi → To limit s rules hi lo c.at → d.end ≡ c.end → To limit s rules c.end c.at d.at → To limit s rules hi lo d.at
  on_to c d q g h f = nest.join (Standing limit s) g (subst (λ (x : ℕ). To limit s rules x c.at d.at) q f)

  pub run_over : {c : Cursor} {rs : List Stepped} → c.end ≡ hi → To limit s rules hi lo c.at → Run (Answers limit rules s) c rs → Run (Answers limit rules s') c rs
  run_over q g none = none
  run_over q g (call {c} {r} a run) =
      let w = called limit s rules c r a in
      call (answers_over c r q g a) (run_over (w.kept ∙ q) (on_to c r.next q g w.kept w.to) run)

-- a run has one list of answers of each length
pub alone : (limit : ℕ) (rules : Rules) (s : List ℕ) {c : Cursor} {rs rs' : List Stepped} → Run (Answers limit rules s) c rs → Run (Answers limit rules s) c rs' → length rs ≡ length rs' → rs ≡ rs'
alone limit rules s none none h = refl
alone limit rules s none (call a run) h = absurd (omega arith)
alone limit rules s (call a run) none h = absurd (omega arith)
alone limit rules s (call {c} {r} {rs} a run) (call {r = r'} {rs = rs'} a' run') h =
    let q : r ≡ r' = a ∙ sym a' in
    let k : rs ≡ rs' = alone limit rules s run (subst (λ (x : Stepped). Run (Answers limit rules s) x.next rs') (sym q) run') (omega arith) in
    cc

-- ---- annotation steps

annotation_grows : (s : List ℕ) (at end : ℕ) → Each (λ x. at ≤ next_annotation at (gives x)) (read_annotation s at end)
unfolding read_annotation
annotation_grows s at end =
    each_within s at end (λ _ _.
    each_pick (eqb at end) (λ _. given (omega arith)) (λ _. each_then (var_uint_bounded s at end) (λ u b. given (omega (arith, b.begins)))))

grown : {at : ℕ} {o : Outcome Annotated} → Each (λ x. at ≤ next_annotation at (gives x)) o → at ≤ next_annotation at o
grown (given h) = h
grown refused = omega arith

-- on two maps with the same annotation bytes the steps have the same answers
pub annotations_alone : (limit : ℕ) (s s' : List ℕ) (from end : ℕ) → length s ≡ length s' → Same s s' from end → {at : ℕ} {rs rs' : List (Outcome Annotated)} → from ≤ at → AnnotationRun ((ByRules limit s).annotation end) at rs → AnnotationRun ((ByRules limit s').annotation end) at rs' → length rs ≡ length rs' → rs ≡ rs'
annotations_alone limit s s' from end l same h no_more no_more n = refl
annotations_alone limit s s' from end l same h no_more (one_more a run) n = absurd (omega arith)
annotations_alone limit s s' from end l same h (one_more a run) no_more n = absurd (omega arith)
annotations_alone limit s s' from end l same h (one_more {at} {r} {rs} a run) (one_more {r = r'} {rs = rs'} a' run') n =
    let x : read_annotation s at end ≡ read_annotation s' at end = annotation_local s s' l at end (λ i c d. same i (omega arith) (omega (arith, looked_high s at end))) in
    let q : r ≡ r' = a ∙ x ∙ sym a' in
    let g : at ≤ next_annotation at r = subst (λ (o : Outcome Annotated). at ≤ next_annotation at o) (sym a) (grown (annotation_grows s at end)) in
    let k : rs ≡ rs' = annotations_alone limit s s' from end l same (omega arith) run (subst (λ (o : Outcome Annotated). AnnotationRun ((ByRules limit s').annotation end) (next_annotation at o) rs') (sym q) run') (omega arith) in
    cc
