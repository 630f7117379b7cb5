-- Kind 4, by the bytes, in both directions: as many pads of the document as may be passed lead to its position, and behind that comes a pad's descriptor.
-- Assumes nothing.
use Prim.Native.Nat.{ℕ, ◌+◌, ◌≤◌, ◌<◌}
use native.Mathlib.Omega.{arith}
use borrow.Author.Tests.{ltb-true, ne_eqb}
use mathlib.Core.Path.{◌≡◌, refl, ◌∙◌, sym, ap, subst}
use mathlib.Core.Bool.{Bool, true, true≢false}
use mathlib.Core.Logic.{◌⊎◌, inl, inr}
use mathlib.Core.List.{List}
use lib.ListN.{length, get_or, take}
use lib.Dec.{ltb, eqb}
use Rattle.std.proofs.lemmas.List.{length-take-le}
use Rattle.numbers.specs.Outcome.{Outcome, gives, refuses}
use Rattle.numbers.specs.Answers.{Unsigned, unsigned, var_uint}
use Rattle.numbers.proofs.Outcomes.{by_case, by_test, inside, inside_end, then_gives, refuse_gives}
use Rattle.numbers.proofs.Meaning.{var_uint_at, var-uint-complete}
use Rattle.stepping.specs.Items.{Pad}
use Rattle.stepping.specs.Answers.{found}
use Rattle.stepping.specs.Format.{NameBytes, in_stream, in_sequence, in_fields}
use Rattle.stepping.specs.Meaning.{Skips, arrived, passed}
use Rattle.stepping.specs.Names.{followed, field_id, name_at}
use Rattle.stepping.specs.declared.cursor.Cursor.{Cursor}
use Rattle.stepping.specs.declared.cursor.Rules.{Rules}
use Rattle.stepping.specs.declared.cursor.Rules.TheVariants.{Stream, Sequence, Fields}
use Rattle.stepping.proofs.Completeness.{pad_complete}
use Rattle.stepping.proofs.Plain.{name_in}
use Rattle.stepping.proofs.Soundness.{steps-sound}
use Rattle.counting.specs.Pads.{begins_pad}
use Rattle.counting.specs.Counted.{Counted, unread, counted}
use Rattle.counting.specs.Bounded.{Bounded, reached, more, behind_pads, pad_behind, pad_next, stops_among, bounded_in}
use Rattle.counting.specs.BoundedRuns.{PadComes}
use Rattle.counting.specs.Theorems.{MoreSound, MoreComplete, ElseTheStep}
use Rattle.counting.proofs.PadReading.{pad_below, below_pad}
use Rattle.counting.proofs.Bounding.{add_pads, next_named, bound_more, bounded-in, bounded_unread, is_read}
use Rattle.counting.proofs.Passing.{Passes, here, past, passes_bounded}
use Rattle.counting.proofs.BoundedTiling.{by_answer, skips_take}

-- ---- a name, by its bytes

next_in : Outcome Unsigned → ℕ
next_in (gives u) = u.next
next_in (refuses n p) = 0

NameIs : Rules → List ℕ → ℕ → ℕ → ℕ → Type 0
NameIs rules s hi p n = NameBytes s hi rules p n × (n ≤ p + 9)

name_sound : (rules : Rules) (s : List ℕ) (p hi : ℕ) (u : Unsigned) → name_at rules s p hi ≡ gives u → NameIs rules s hi p u.next
unfolding next_in NameIs field_id followed
name_sound Stream s p hi u e = subst (NameIs Stream s hi p) (ap next_in e) (in_stream, omega arith)
name_sound Sequence s p hi u e = subst (NameIs Sequence s hi p) (ap next_in e) (in_sequence, omega arith)
name_sound Fields s p hi u e =
    let w = then_gives (var_uint s p hi) (followed hi) e in
    let r = var_uint_at s p hi w.1 in
    let q = refuse_gives (eqb w.0.next hi) 7 hi w.2 in
    let n : r.next ≡ u.next = sym (ap (λ (x : Unsigned). x.next) r.is) ∙ ap next_in q.1 in
    subst (NameIs Fields s hi p) n (in_fields r.number, r.short)

name_complete : {s : List ℕ} {hi p n : ℕ} {rules : Rules} → NameBytes s hi rules p n → n ≤ p + 9 → n < hi → (u : Unsigned) × (name_at rules s p hi ≡ gives u) × (u.next ≡ n)
unfolding field_id followed
name_complete {p = p} in_stream l h = (record { value = 0; next = p }, refl, refl)
name_complete {p = p} in_sequence l h = (record { value = 0; next = p }, refl, refl)
name_complete {s} {hi} {p} {n} (in_fields id) l h =
    (unsigned s p n, rw (var-uint-complete s p hi n id l, ne_eqb n hi (λ e. omega arith)), refl)

-- ---- a pad's descriptor next, by its bytes

module _ (rules : Rules) (s : List ℕ) (hi p : ℕ) where
  comes_behind : p < hi → hi ≤ length s → (o : Outcome Unsigned) → name_at rules s p hi ≡ o → pad_behind s o ≡ true → PadComes rules s hi p
  unfolding NameIs
  comes_behind l m (gives u) name e =
      let w = name_sound rules s p hi u name in
      record {
        after = u.next;
        name = w.0;
        short = w.1;
        before = (name_in rules s p hi l u name).high;
        within = m;
        descriptor = pad_below (get_or s u.next 0) e;
      }
  comes_behind l m (refuses n q) name e = absurd (true≢false (sym e))

  comes : hi ≤ length s → pad_next rules s p hi ≡ true → PadComes rules s hi p
  unfolding pad_next
  comes m =
      by_test (λ (t : Bool). t ≡ true → PadComes rules s hi p) (ltb p hi)
      (λ l e. comes_behind (ltb-true p hi l) m (name_at rules s p hi) refl e)
      (λ _ e. absurd (true≢false (sym e)))

  name_order : {r : Rules} {a n : ℕ} → NameBytes s hi r a n → a ≤ n
  name_order in_stream = omega arith
  name_order in_sequence = omega arith
  name_order (in_fields id) = omega (arith, id.begins)

  comes_next : PadComes rules s hi p → (p < hi) × (pad_next rules s p hi ≡ true)
  comes_next t =
      let l : p < hi = omega (arith, name_order t.name, t.before) in
      let w = name_complete t.name t.short t.before in
      (l, next_named rules s p hi l w.0 w.1 ∙ ap (λ (n : ℕ). begins_pad (get_or s n 0)) w.2 ∙ below_pad (get_or s t.after 0) t.descriptor)

-- ---- kind 4

no_more : {n p : ℕ} {a : Counted} → reached a ≡ more n p → ⊥
no_more e = let z : ◌≡◌ {A = ℕ} 0 1 = cc in omega arith

pub more-sound : MoreSound
more-sound limit most rules s c =
    by_answer (λ (r : Bounded). (n p : ℕ) → r ≡ more n p → (n ≡ most) × ((ps : List Pad) × (length ps ≡ most) × Skips rules s c.end c.at ps p × PadComes rules s c.end p)) limit most rules s c
    (λ k n p e. absurd (no_more e))
    (λ g o h b n p e.
    let q : behind_pads most c.at (found limit rules s c).pads ≡ p = cc in
    let i : n ≡ most = cc in
    let w = skips_take rules s c.end most (steps-sound limit rules s c).1 h in (
      i,
      (
        take most (found limit rules s c).pads,
        length-take-le most (found limit rules s c).pads h,
        subst (Skips rules s c.end c.at (take most (found limit rules s c).pads)) q w,
        subst (PadComes rules s c.end) q (comes rules s c.end (behind_pads most c.at (found limit rules s c).pads) (inside_end s c.at c.end o) b),
      ),
    ))
    (λ g o n p e. absurd (no_more e))

-- pads of the document are passed
skips_pass : (limit : ℕ) (rules : Rules) (s : List ℕ) (hi : ℕ) {a z : ℕ} {ps : List Pad} → Skips rules s hi a ps z → Passes limit rules s hi (length ps) a z
skips_pass limit rules s hi arrived = here
skips_pass limit rules s hi (passed {p} t l r) =
    let h : p.start < hi = omega (arith, name_order rules s hi p.start t.name, t.bytes.low, t.bytes.order, t.bytes.fits) in
    past h (pad_complete limit s hi t.name (record { body = p.body; end = p.end }) t.bytes l.0 l.1) (skips_pass limit rules s hi r)

-- so they lead on
pass_on : (limit : ℕ) (rules : Rules) (s : List ℕ) (hi : ℕ) {n a z : ℕ} → Passes limit rules s hi n a z → z ≤ hi → a ≤ hi
pass_on limit rules s hi here h = h
pass_on limit rules s hi (past l t d) h = omega arith

pub more-complete : MoreComplete
more-complete limit rules s c ps p g some k t =
    let x = comes_next rules s c.end p t in
    let d = skips_pass limit rules s c.end k in
    let l = pass_on limit rules s c.end d (omega (arith, x.0)) in
    let n : length ps ≡ length ps + 0 = omega arith in
    bounded-in limit rules s (length ps) c g (inside s c.at c.end l t.within) (λ e. omega arith)
    ∙ ap (λ (j : ℕ). bounded_in limit j rules s c) n
    ∙ passes_bounded limit rules s c.end g t.within 0 d
    ∙ ap (add_pads (length ps)) (bound_more limit rules s g p c.end x.0 t.within x.1)
    ∙ ap (λ (j : ℕ). more j p) (sym n)

-- the two answers of a step in a part
either : (limit most : ℕ) (rules : Rules) (s : List ℕ) (c : Cursor) → (bounded_in limit most rules s c ≡ reached (counted limit rules s c)) ⊎ ((p : ℕ) × (bounded_in limit most rules s c ≡ more most p))
unfolding bounded_in
either limit most rules s c =
    by_test (λ (r : Bounded). (r ≡ reached (counted limit rules s c)) ⊎ ((p : ℕ) × (r ≡ more most p))) (stops_among most rules s c (found limit rules s c).pads)
    (λ _. inr (behind_pads most c.at (found limit rules s c).pads, refl))
    (λ _. inl refl)

pub else-the-step : ElseTheStep
else-the-step limit most rules s c some =
    by_case (unread limit s c) (λ o. inl (bounded_unread limit rules s most c o)) (λ e.
    let r = is_read limit s c e in
    subst (λ (r : Bounded). (r ≡ reached (counted limit rules s c)) ⊎ ((p : ℕ) × (r ≡ more most p))) (sym (bounded-in limit rules s most c r.0 r.1 (λ e. omega arith)))
    (either limit most rules s c))
