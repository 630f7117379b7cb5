-- `runs_of_calls`: an exported step on such a part is the step of its rules, and an item leaves the cursor at its end, past the part's start.
-- Assumes nothing.
use Prim.Native.Nat.{ℕ, zero, suc, ◌≤◌, ◌<◌}
use native.Mathlib.Omega.{arith}
use mathlib.Core.Path.{◌≡◌, refl, ◌∙◌, sym, ap, subst}
use mathlib.Core.Bool.{true, false}
use mathlib.Core.List.{List, [], ◌∷◌, map}
use lib.ListN.{length}
use Rattle.numbers.specs.Outcome.{Outcome, refuses, outside_of}
use Rattle.numbers.proofs.Outcomes.{by_case, inside_order, inside_end}
use Rattle.stepping.specs.Items.{Item}
use Rattle.stepping.specs.Answers.{after, Stepped, step_of, answer_at}
use Rattle.stepping.specs.Kinds.{rules_of}
use Rattle.stepping.specs.Leaving.{left_of, on_left}
use Rattle.stepping.specs.Runs.{cursor, Answers, Run, none, call}
use Rattle.stepping.specs.declared.cursor.Rules.{Rules}
use Rattle.stepping.specs.declared.cursor.Cursor.{Cursor}
use Rattle.stepping.proofs.Places.{a_marker, a_value, a_field, in_ends}
use Rattle.stepping.proofs.Moves.{Moves, ends, hands, stops, moves}
use Rattle.framing.specs.Limits.{out_of_range}
use Rattle.batches.specs.Steps.{exported_run}
use Rattle.maps.specs.Inside.{inside_of, part_rules}
use Rattle.batches.specs.Private.Run.{step_run}
use Rattle.batches.specs.Theorems.{answer_of, RunsOfCalls}
use Rattle.maps.proofs.Within.{refused_unranged, step_is, refused_outside, not_given}

-- the answer of a step, and the cursor that it leaves
stepped : (limit : ℕ) (rules : Rules) (s : List ℕ) (at end : ℕ) → step_of limit rules s (cursor at end) ≡ record { answer = answer_at limit rules s at end; next = after (cursor at end) (answer_at limit rules s at end) }
unfolding step_of
stepped limit rules s at end = refl

module _ (limit : ℕ) (s : List ℕ) (start end kind : ℕ) (k : kind ≤ 2) where
  abbrev Runs : ℕ → List (Outcome Item) → Type 0
  Runs at os = (rs : List Stepped) × Run (Answers limit (rules_of kind) s) (cursor at end) rs × (map answer_of rs ≡ os)

  -- a call, and a run behind it
  first : (at : ℕ) (o : Outcome Item) (os : List (Outcome Item)) → answer_at limit (rules_of kind) s at end ≡ o → (rs : List Stepped) → Run (Answers limit (rules_of kind) s) (after (cursor at end) o) rs → map answer_of rs ≡ os → Runs at (o ∷ os)
  first at o os e rs run m =
      let c : record { answer = o; next = after (cursor at end) o } ≡ step_of limit (rules_of kind) s (cursor at end)
      = ap (λ (x : Outcome Item). record { answer = x; next = after (cursor at end) x }) (sym e) ∙ sym (stepped limit (rules_of kind) s at end) in
      (record { answer = o; next = after (cursor at end) o } ∷ rs, call c run, ap (λ (xs : List (Outcome Item)). o ∷ xs) m)

  last : (at : ℕ) (o : Outcome Item) → answer_at limit (rules_of kind) s at end ≡ o → Runs at (o ∷ [])
  last at o e = first at o [] e [] none refl

  -- what follows an answer, given the runs from every place behind it
  module _ (at : ℕ) (l : start ≤ at) (go : ℕ → List (Outcome Item)) (from : (e : ℕ) → start ≤ e → Runs e (go e)) where
    to_end : {o : Outcome Item} (e : ℕ) → at < e → answer_at limit (rules_of kind) s at end ≡ o → after (cursor at end) o ≡ cursor e end → Runs at (o ∷ go e)
    to_end {o} e h q p =
        let r = from e (omega arith) in
        first at o (go e) q r.0 (subst (λ (c : Cursor). Run (Answers limit (rules_of kind) s) c r.0) (sym p) r.1) r.2

    moved : {o : Outcome Item} → Moves at end o → answer_at limit (rules_of kind) s at end ≡ o → Runs at (o ∷ on_left (left_of o) [] go)
    moved ends q = last at _ q
    moved (hands (a_marker {e = e} h m)) q = to_end e h q refl
    moved (hands (a_value {v} i)) q = to_end v.end (in_ends (a_value i)).0 q refl
    moved (hands (a_field {id} {a} {v} i)) q = to_end v.end (in_ends (a_field {id = id} {a = a} i)).0 q refl
    moved (stops x) q = last at _ q

    behind : Runs at (answer_at limit (rules_of kind) s at end ∷ on_left (left_of (answer_at limit (rules_of kind) s at end)) [] go)
    behind =
        by_case (out_of_range limit)
        (λ g.
        let e = refused_unranged limit (rules_of kind) s at end g in
        subst (λ (o : Outcome Item). Runs at (o ∷ on_left (left_of o) [] go)) (sym e) (last at (refuses 68 0) e))
        (λ g.
        by_case (outside_of s at end)
        (λ h.
        let e = refused_outside limit (rules_of kind) s at end g h in
        subst (λ (o : Outcome Item). Runs at (o ∷ on_left (left_of o) [] go)) (sym e) (last at (refuses 50 0) e))
        (λ h. moved (moves limit (rules_of kind) s end (inside_end s at end h) at (inside_order s at end h)) refl))

  runs : (n at : ℕ) → start ≤ at → Runs at (exported_run limit n s start end at kind)
  unfolding exported_run
  runs zero at l = ([], none, refl)
  runs (suc n) at l =
      subst (λ (o : Outcome Item). Runs at (o ∷ on_left (left_of o) [] (λ e. exported_run limit n s start end e kind))) (sym (step_is limit s start end at kind l k))
      (behind at l (λ e. exported_run limit n s start end e kind) (λ e m. runs n e m))

pub runs_of_calls : RunsOfCalls
runs_of_calls limit s start end position kind n l k = runs limit s start end kind k n position l

-- ---- by their rules

module _ (limit : ℕ) (s : List ℕ) (start end kind : ℕ) (m : end ≤ length s) where
  abbrev both : ℕ → Outcome Item → List (Outcome Item) × List (Outcome Item)
  both n o = (on_left (left_of o) [] (λ e. exported_run limit n s start end e kind), on_left (left_of o) [] (λ e. step_run limit n (rules_of kind) s e end))

  -- what follows an answer is the same, if it is from every place behind it
  follows : (n at : ℕ) → start ≤ at → ((e : ℕ) → at < e → e ≤ end → exported_run limit n s start end e kind ≡ step_run limit n (rules_of kind) s e end) → {o : Outcome Item} → Moves at end o → (both n o).0 ≡ (both n o).1
  follows n at l go ends = refl
  follows n at l go (hands (a_marker {e = e} h k)) = go e h k
  follows n at l go (hands (a_value {v} i)) = let p = in_ends (a_value i) in go v.end p.0 p.1
  follows n at l go (hands (a_field {id} {a} {v} i)) = let p = in_ends (a_field {id = id} {a = a} i) in go v.end p.0 p.1
  follows n at l go (stops x) = refl

  -- in a part exported steps are steps
  pub run_is : (n at : ℕ) → start ≤ at → kind ≤ 2 → at ≤ end → exported_run limit n s start end at kind ≡ step_run limit n (rules_of kind) s at end
  unfolding exported_run step_run
  run_is zero at l k o = refl
  run_is (suc n) at l k o =
      rw (step_is limit s start end at kind l k)
      (ap (λ (os : List (Outcome Item)). answer_at limit (rules_of kind) s at end ∷ os) (follows n at l (λ e h q. run_is n e (omega arith) k q) (moves limit (rules_of kind) s end m at o)))

-- where the part's rules are refused there is one answer, which is refused alike
pub run_refused : (limit : ℕ) (s : List ℕ) (start end at kind : ℕ) {n m number position : ℕ} → n ≡ suc m → part_rules limit s start end at kind ≡ refuses number position → exported_run limit n s start end at kind ≡ refuses number position ∷ []
unfolding exported_run
run_refused limit s start end at kind q e = rw (q, not_given limit s start end at kind e)

-- with a limit that is none it is refused with 68, and outside with 50
pub run_unranged : (limit : ℕ) (s : List ℕ) (start end at kind : ℕ) {n m : ℕ} → n ≡ suc m → out_of_range limit ≡ true → exported_run limit n s start end at kind ≡ refuses 68 0 ∷ []
run_unranged limit s start end at kind q g = run_refused limit s start end at kind q (rw g)

pub run_outside : (limit : ℕ) (s : List ℕ) (start end at kind : ℕ) {n m : ℕ} → n ≡ suc m → out_of_range limit ≡ false → inside_of s start end at kind ≡ false → exported_run limit n s start end at kind ≡ refuses 50 0 ∷ []
run_outside limit s start end at kind q g h = run_refused limit s start end at kind q (rw (g, h))
