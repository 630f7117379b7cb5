-- A position in a part of a map: there an exported step is the step of its rules, and elsewhere it is refused with 50.
-- Assumes nothing.
use Prim.Native.Nat.{ℕ, ◌≤◌, ◌<◌}
use borrow.Author.Tests.{ltb-true, ltb-false, leb-true, lt-ltb, le-ltb, le-leb}
use mathlib.Core.Path.{◌≡◌, ◌∙◌, sym, ap}
use mathlib.Core.Bool.{true, false, true≢false}
use mathlib.Core.List.{List}
use lib.ListN.{length}
use lib.Dec.{ltb}
use Rattle.numbers.specs.Outcome.{Outcome, gives, refuses, outside_of}
use Rattle.numbers.proofs.Outcomes.{by_test, by_case}
use Rattle.stepping.specs.Answers.{found, step_of, answer_at}
use Rattle.stepping.specs.Kinds.{rules_of}
use Rattle.stepping.specs.declared.cursor.Rules.{Rules}
use Rattle.framing.specs.Limits.{out_of_range}
use Rattle.maps.specs.Exported.{exported_step}
use Rattle.maps.specs.Inside.{inside_of, part_rules}

pub record Inside (s : List ℕ) (start end at kind : ℕ) : Type 0 where
  pub low : start ≤ at
  pub kind_is : kind ≤ 2
  pub order : at ≤ end
  pub high : end ≤ length s

pub inside : (s : List ℕ) (start end at kind : ℕ) → inside_of s start end at kind ≡ true → Inside s start end at kind
inside s start end at kind =
    by_test (λ b. b ≡ true → Inside s start end at kind) (ltb (length s) end) (λ _ e. absurd (true≢false (sym e))) (λ h.
    by_test (λ b. b ≡ true → Inside s start end at kind) (ltb end at) (λ _ e. absurd (true≢false (sym e))) (λ o.
    by_test (λ b. b ≡ true → Inside s start end at kind) (ltb at start) (λ _ e. absurd (true≢false (sym e))) (λ l e.
    record { low = ltb-false at start l; kind_is = leb-true kind 2 e; order = ltb-false end at o; high = ltb-false (length s) end h })))

-- with a limit that is none a step is refused, and so is an exported one
pub refused_unranged : (limit : ℕ) (rules : Rules) (s : List ℕ) (at end : ℕ) → out_of_range limit ≡ true → answer_at limit rules s at end ≡ refuses 68 0
unfolding step_of found
refused_unranged limit rules s at end g = rw (answer_at, g)

pub step_unranged : (limit : ℕ) (s : List ℕ) (start end position kind : ℕ) → out_of_range limit ≡ true → exported_step limit s start end position kind ≡ refuses 68 0
unfolding exported_step
step_unranged limit s start end position kind g = rw g

-- an exported step is a step
pub step_is : (limit : ℕ) (s : List ℕ) (start end position kind : ℕ) → start ≤ position → kind ≤ 2 → exported_step limit s start end position kind ≡ answer_at limit (rules_of kind) s position end
unfolding exported_step
step_is limit s start end position kind l k =
    by_case (out_of_range limit) (λ g. rw g (sym (refused_unranged limit (rules_of kind) s position end g))) (λ g.
    rw (g, le-ltb position start l, le-ltb 2 kind k))

-- a step on no part is refused
pub refused_outside : (limit : ℕ) (rules : Rules) (s : List ℕ) (at end : ℕ) → out_of_range limit ≡ false → outside_of s at end ≡ true → answer_at limit rules s at end ≡ refuses 50 0
unfolding step_of found
refused_outside limit rules s at end g h = rw (answer_at, g, h)

no_order : (s : List ℕ) (at end : ℕ) → end < at → outside_of s at end ≡ true
unfolding outside_of
no_order s at end h = rw (lt-ltb end at h)

too_far : (s : List ℕ) (at end : ℕ) → at ≤ end → length s < end → outside_of s at end ≡ true
unfolding outside_of
too_far s at end l h = rw (le-ltb end at l, lt-ltb (length s) end h)

-- and so is an exported step that is not inside
pub step_outside : (limit : ℕ) (s : List ℕ) (start end at kind : ℕ) → out_of_range limit ≡ false → inside_of s start end at kind ≡ false → exported_step limit s start end at kind ≡ refuses 50 0
unfolding exported_step
step_outside limit s start end at kind g h =
    rw g
    (by_case (ltb at start) (λ l. rw l) (λ l.
    rw l
    (by_case (ltb 2 kind) (λ k. rw k) (λ k.
    rw k
    (refused_outside limit (rules_of kind) s at end g
    (by_case (ltb end at) (λ o. no_order s at end (ltb-true end at o)) (λ o.
    by_case (ltb (length s) end) (λ f. too_far s at end (ltb-false end at o) (ltb-true (length s) end f)) (λ f.
    absurd (true≢false (sym (le-leb kind 2 (ltb-false 2 kind k)) ∙ (rw (f, o, l) at h)))))))))))

-- ---- by the part's rules

-- where the rules are given, the limit is one, the position is in the part, and they are those of the kind
pub record Given (limit : ℕ) (s : List ℕ) (start end at kind : ℕ) (rules : Rules) : Type 0 where
  pub ranged : out_of_range limit ≡ false
  pub within : Inside s start end at kind
  pub rules_is : rules ≡ rules_of kind

pub given : (limit : ℕ) (s : List ℕ) (start end at kind : ℕ) (rules : Rules) → part_rules limit s start end at kind ≡ gives rules → Given limit s start end at kind rules
given limit s start end at kind rules e =
    by_case (out_of_range limit) (λ g. absurd (let f = rw g at e in cc)) (λ g.
    by_case (inside_of s start end at kind) (λ i.
    let f : gives (rules_of kind) ≡ gives rules = rw (g, i) at e in
    record { ranged = g; within = inside s start end at kind i; rules_is = cc }) (λ i.
    absurd (let f = rw (g, i) at e in cc)))

-- there the exported step is the step by them
pub by_rules : (limit : ℕ) (s : List ℕ) (start end at kind : ℕ) {rules : Rules} → part_rules limit s start end at kind ≡ gives rules → exported_step limit s start end at kind ≡ answer_at limit rules s at end
by_rules limit s start end at kind {rules} e =
    let g = given limit s start end at kind rules e in
    step_is limit s start end at kind g.within.low g.within.kind_is
    ∙ sym (ap (λ (r : Rules). answer_at limit r s at end) g.rules_is)

-- one refusal, of whatever is asked for
same_refusal : {A B : Type 0} {n m p q : ℕ} → ◌≡◌ {A = Outcome A} (refuses n p) (refuses m q) → ◌≡◌ {A = Outcome B} (refuses n p) (refuses m q)
same_refusal {n} {m} {p} {q} e =
    let number : n ≡ m = cc in
    let position : p ≡ q = cc in
    cc

-- where they are not, the exported step is refused alike
pub not_given : (limit : ℕ) (s : List ℕ) (start end at kind : ℕ) {number position : ℕ} → part_rules limit s start end at kind ≡ refuses number position → exported_step limit s start end at kind ≡ refuses number position
not_given limit s start end at kind e =
    by_case (out_of_range limit) (λ g. step_unranged limit s start end at kind g ∙ same_refusal (rw g at e)) (λ g.
    by_case (inside_of s start end at kind) (λ i. absurd (let f = rw (g, i) at e in cc)) (λ i.
    step_outside limit s start end at kind g i ∙ same_refusal (rw (g, i) at e)))
