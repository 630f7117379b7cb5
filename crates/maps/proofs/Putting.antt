-- An answer whose words were put, and where it leaves its caller.
-- Assumes nothing.
use Prim.Native.Nat.{ℕ, ◌≤◌}
use borrow.Author.Tests.{le-ltb}
use mathlib.Core.Path.{◌≡◌, refl, ◌∙◌, sym, ap}
use mathlib.Core.List.{List}
use lib.ListN.{length}
use Rattle.std.specs.Prelude.{Option, Some, None}
use Rattle.std.specs.declared.ops.ControlFlow.TheVariants.{Continue, Break}
use Rattle.numbers.specs.Outcome.{Outcome, gives, refuses}
use Rattle.framing.specs.Spans.{Spans}
use Rattle.stepping.specs.Items.{Item, finish, marker, value, field}
use Rattle.stepping.specs.Leaving.{left_of, on_left}
use Rattle.stepping.specs.Names.{item_by}
use Rattle.stepping.specs.declared.cursor.Rules.{Rules}
use Rattle.stepping.specs.declared.cursor.Rules.TheVariants.{Stream, Sequence, Fields}
use Rattle.records.specs.Buffer.{record_size, record_in, returned, returned_by, answered, number_of}
use Rattle.records.specs.Words.{words, refused_words}
use Rattle.records.proofs.Numbers.{returned-by, step_number}
use Rattle.maps.specs.Put.{put_by}

-- a value leaves its caller at its end, whatever the rules
pub value_leaves : (rules : Rules) (at id : ℕ) (v : Spans) → left_of (gives (item_by rules at id v)) ≡ Some v.end
value_leaves Stream at id v = refl
value_leaves Sequence at id v = refl
value_leaves Fields at id v = refl

-- where there is room for its record, a call returns the answer's number
pub returned_room : (old : List ℕ) → record_size ≤ length old → (o : Outcome Item) → returned old o ≡ number_of o
unfolding answered
returned_room old h o = rw (le-ltb (length old) record_size h)

-- what the call returns that puts an answer's words
by_answer : (old : List ℕ) (o : Outcome Item) → returned_by (words o) old ≡ returned old o
by_answer old o = returned-by 9 (words o) old o (step_number o)

-- ---- words that are put are an answer's, which tells where it leaves its caller

-- a refusal whose words were put
pub refused_put : (o : Outcome Item) (old : List ℕ) {n p : ℕ} → o ≡ refuses n p → put_by o old ≡ Break (returned_by (refused_words n p) old)
refused_put o old e = rw e

-- any other one, by where it leaves its caller
pub left_put : (o : Outcome Item) (old : List ℕ) {k : ℕ} → left_of o ≡ Some k → put_by o old ≡ Continue k
left_put o old {k} e = ap (λ (l : Option ℕ). on_left l (Break (returned_by (words o) old)) (λ k. Continue k)) e

pub over_put : (o : Outcome Item) (old : List ℕ) → left_of o ≡ None → put_by o old ≡ Break (returned_by (words o) old)
over_put o old e = ap (λ (l : Option ℕ). on_left l (Break (returned_by (words o) old)) (λ k. Continue k)) e

pub put_at : (old : List ℕ) {o p : Outcome Item} {n : ℕ} {new ws : List ℕ} → p ≡ o → ws ≡ words p → record { value : n ≡ returned_by ws old; out_after : new ≡ record_in ws old } → {k : ℕ} → left_of p ≡ Some k → record { value : Continue k ≡ put_by o old; out_after : new ≡ record_in (words o) old }
put_at old {o} {p} q e h f = record {
  value = sym (left_put p old f) ∙ ap (λ x. put_by x old) q;
  out_after = h.out_after ∙ ap (λ (w : List ℕ). record_in w old) (e ∙ ap words q);
}

pub put_over : (old : List ℕ) {o p : Outcome Item} {n : ℕ} {new ws : List ℕ} → p ≡ o → ws ≡ words p → record { value : n ≡ returned_by ws old; out_after : new ≡ record_in ws old } → left_of p ≡ None → record { value : Break n ≡ put_by o old; out_after : new ≡ record_in (words o) old }
put_over old {o} {p} q e h f = record {
  value = ap (λ x. Break x) (h.value ∙ ap (λ (w : List ℕ). returned_by w old) e) ∙ sym (over_put p old f) ∙ ap (λ x. put_by x old) q;
  out_after = h.out_after ∙ ap (λ (w : List ℕ). record_in w old) (e ∙ ap words q);
}

-- ---- and back

-- an answer that leaves its caller at a place is no refusal
pub at_left : (o : Outcome Item) (k : ℕ) (old : List ℕ) → put_by o old ≡ Continue k → (left_of o ≡ Some k) × (number_of o ≡ 0)
at_left (gives (finish p)) k old h = absurd cc
at_left (gives (marker a major minor e)) k old h = (cc, refl)
at_left (gives (value v)) k old h = (cc, refl)
at_left (gives (field id a v)) k old h = (cc, refl)
at_left (refuses number position) k old h = absurd cc

pub over_left : (o : Outcome Item) (k : ℕ) (old : List ℕ) → put_by o old ≡ Break k → (left_of o ≡ None) × (k ≡ returned old o)
over_left (gives (finish p)) k old h = (refl, let e : k ≡ returned_by (words (gives (finish p))) old = cc in e ∙ by_answer old (gives (finish p)))
over_left (gives (marker a major minor e)) k old h = absurd cc
over_left (gives (value v)) k old h = absurd cc
over_left (gives (field id a v)) k old h = absurd cc
over_left (refuses number position) k old h = (refl, let e : k ≡ returned_by (words (refuses number position)) old = cc in e ∙ by_answer old (refuses number position))

-- what a call returns that puts an answer's words, by where the answer leaves its caller
pub returned_left : (o : Outcome Item) (old : List ℕ) {k : ℕ} → put_by o old ≡ Continue k → record_size ≤ length old → returned old o ≡ 0
returned_left o old {k} e h = returned_room old h o ∙ (at_left o k old e).1

pub returned_over : (o : Outcome Item) (old : List ℕ) {k : ℕ} → put_by o old ≡ Break k → returned old o ≡ k
returned_over o old {k} e = sym (over_left o k old e).1
