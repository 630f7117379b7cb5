-- The annotation IDs of a value, one at a time.
-- Assumes nothing.
use Prim.Native.Nat.{ℕ, zero, suc, ◌-◌, ◌≤◌, ◌<◌}
use native.Mathlib.Omega.{arith}
use borrow.Author.Tests.{eq-eqb}
use mathlib.Core.Path.{◌≡◌, refl, ◌∙◌, sym, ap}
use mathlib.Core.List.{List}
use lib.ListN.{length}
use lib.Dec.{eqb}
use Rattle.numbers.specs.Outcome.{Outcome, gives, and_then}
use Rattle.numbers.proofs.Outcomes.{Each, each_of, given, each_pick, each_within, each_then, then_same, within_part}
use Rattle.numbers.proofs.Meaning.{var_uint_bounded}
use Rattle.framing.specs.Answers.{Annotated, ident, finished, read_annotation}
use Rattle.checking.specs.Reading.{Done, done, on_id, ids_from, read_ids}

-- where the next ID begins, in bytes of the slice
abbrev pub NextIn : List ℕ → ℕ → ℕ → Annotated → Type 0
NextIn s at end (ident id next) = (at < next) × (next ≤ end) × (end ≤ length s)
NextIn s at end finished = Unit {0}

pub annotation_each : (s : List ℕ) (at end : ℕ) → Each (NextIn s at end) (read_annotation s at end)
unfolding read_annotation
annotation_each s at end =
    each_within s at end (λ l m.
    each_pick (eqb at end) (λ _. given tt)
    (λ _. each_then (var_uint_bounded s at end) (λ u b. given (omega (arith, b.begins), b.ends, m))))

-- at the end there is none
none_left : (s : List ℕ) (end : ℕ) (go : ℕ → Outcome Done) → end ≤ length s → gives done ≡ and_then (read_annotation s end end) (on_id go)
unfolding read_annotation
none_left s end go m = sym (ap (λ (o : Outcome Annotated). and_then o (on_id go)) (within_part s end end (omega arith) m) ∙ rw (eq-eqb end end refl))

next_same : (s : List ℕ) (at end : ℕ) (go go' : ℕ → Outcome Done) → ((n : ℕ) → at < n → n ≤ end → end ≤ length s → go n ≡ go' n) → and_then (read_annotation s at end) (on_id go) ≡ and_then (read_annotation s at end) (on_id go')
next_same s at end go go' h = then_same (annotation_each s at end) refl on
  where
    on : (x : Annotated) → NextIn s at end x → on_id go x ≡ on_id go' x
    on (ident id n) p = h n p.0 p.1 p.2
    on finished p = refl

fuel : (s : List ℕ) (end k k' at : ℕ) → at ≤ end → end ≤ length s → end - at ≤ k → end - at ≤ k' → ids_from k s end at ≡ ids_from k' s end at
unfolding ids_from
fuel s end zero zero at l m f g = refl
fuel s end zero (suc k') at l m f g = let e : at ≡ end = omega arith in rw e (none_left s end (ids_from k' s end) m)
fuel s end (suc k) zero at l m f g = let e : at ≡ end = omega arith in rw e (sym (none_left s end (ids_from k s end) m))
fuel s end (suc k) (suc k') at l m f g =
    next_same s at end (ids_from k s end) (ids_from k' s end) (λ n p q r. fuel s end k k' n q r (omega arith) (omega arith))

pub ids_next : (s : List ℕ) (at end : ℕ) → at < end → read_ids s at end ≡ and_then (read_annotation s at end) (on_id (λ n. read_ids s n end))
unfolding read_ids ids_from
ids_next s at end l =
    let e : end - at ≡ suc (end - at - 1) = omega arith in
    ap (λ (k : ℕ). ids_from k s end at) e
    ∙ next_same s at end (ids_from (end - at - 1) s end) (λ n. read_ids s n end) (λ n p q r. fuel s end (end - at - 1) (end - n) n q r (omega arith) (omega arith))

pub ids_none : (s : List ℕ) (at end : ℕ) → end ≤ at → read_ids s at end ≡ gives done
unfolding read_ids ids_from
ids_none s at end l = let e : end - at ≡ 0 = omega arith in rw e

-- less is left behind an ID
pub id_less : (s : List ℕ) (at end id next : ℕ) → at < end → read_annotation s at end ≡ gives (ident id next) → end - next < end - at
id_less s at end id next l e = let p = each_of (annotation_each s at end) e in omega (arith, p.0)

pub ruleset ids = (ids_next, ids_none, id_less)
