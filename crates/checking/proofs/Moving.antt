-- The theorems of specs/Moved.antt: each reading, its positions n bytes further on, is the same reading; and of two places one is further on.
-- Assumes nothing.
use Prim.Native.Nat.{ℕ, zero, suc, ◌+◌, ◌-◌, ◌≤◌, ◌<◌}
use native.Mathlib.Omega.{arith}
use borrow.Author.Tests.{ltb-true, ltb-false}
use mathlib.Core.Path.{◌≡◌, refl, ◌∙◌, sym, ap, subst}
use mathlib.Core.Bool.{Bool, true, false, not}
use mathlib.Core.List.{List}
use lib.ListN.{length, get_or}
use lib.Dec.{ltb, eqb}
use Rattle.numbers.specs.Outcome.{Outcome, gives, refuses, pick, refuse_if, and_then}
use Rattle.numbers.proofs.Outcomes.{by_case, inside, each_of}
use Rattle.numbers.proofs.Moving.{Moved, given_on, refused_on, moved_then, moved_pick, same_moved, part_moved, var_uint_moved}
use Rattle.framing.specs.Spans.{Spans}
use Rattle.framing.specs.Answers.{Annotated, ident, finished, identified, read_annotation}
use Rattle.bodies.specs.Utf8.{utf8}
use Rattle.bodies.specs.Magnitude.{nonzero_among, significant_from}
use Rattle.bodies.specs.Decimal.{Split, decimal as split_decimal, moved_decimal}
use Rattle.timestamps.specs.Timestamp.{Encoded, encoded, out_of_range, stamp_of, ranged, hour_alone, too_wide, judged, timestamp as read_stamp}
use Rattle.timestamps.specs.TimestampMeaning.{moved_encoded}
use Rattle.timestamps.specs.declared.timestamp.Stamp.{Stamp}
use Rattle.bodies.proofs.Splitting.{decimals-moved}
use Rattle.timestamps.proofs.StampMoving.{timestamps-moved}
use Rattle.values.specs.Scalars.{type_of, code_of, Scalar}
use Rattle.values.specs.Scalars.{bool_of, positive_of, negative_of, float_of, symbol_of, string_of, typed_of, scalar_of}
use Rattle.checking.specs.Reading.{Done, done, as_done, on_id, ids_from, read_ids, read_body, read_content, content_next, read_item}
use Rattle.checking.proofs.Ids.{NextIn, annotation_each}
use Rattle.checking.specs.Moved.{SameBytes, Alike, both_give, both_refuse, IdsAlike, ContentsAlike, ItemsAlike}

alike_sym : {A B : Type 0} {o : Outcome A} {o' : Outcome B} → Alike o o' → Alike o' o
alike_sym both_give = both_give
alike_sym both_refuse = both_refuse

-- two outcomes of which both give, with R of what they give, or both are refused with the same number
data AlikeBy {A B : Type 0} (R : A → B → Type 0) : Outcome A → Outcome B → Type 0 where
  given_both : {a : A} {b : B} → R a b → AlikeBy R (gives a) (gives b)
  refused_both : {number p q : ℕ} → AlikeBy R (refuses number p) (refuses number q)

by_pick : {A B : Type 0} {R : A → B → Type 0} (t : Bool) {x y : Outcome A} {x' y' : Outcome B} → (t ≡ true → AlikeBy R x x') → (t ≡ false → AlikeBy R y y') → AlikeBy R (pick t x y) (pick t x' y')
by_pick true h k = h refl
by_pick false h k = k refl

by_refuse : {A B : Type 0} {R : A → B → Type 0} (t : Bool) (number p q : ℕ) {x : Outcome A} {x' : Outcome B} → (t ≡ false → AlikeBy R x x') → AlikeBy R (refuse_if t number p x) (refuse_if t number q x')
by_refuse true number p q h = refused_both
by_refuse false number p q h = h refl

alike_then : {A B C D : Type 0} {R : A → B → Type 0} {o : Outcome A} {o' : Outcome B} (f : A → Outcome C) (g : B → Outcome D) → AlikeBy R o o' → ((a : A) (b : B) → R a b → Alike (f a) (g b)) → Alike (and_then o f) (and_then o' g)
alike_then f g (given_both {a} {b} r) h = h a b r
alike_then f g refused_both h = both_refuse

moved_alike : {A B C : Type 0} {n : ℕ} {f : A → A} {o o' : Outcome A} (g : A → Outcome B) (h : A → Outcome C) → Moved n f o o' → ((a : A) → o ≡ gives a → Alike (g a) (h (f a))) → Alike (and_then o g) (and_then o' h)
moved_alike g h (given_on {a}) k = k a refl
moved_alike g h refused_on k = both_refuse

-- of two places the one or the other is n bytes further on
further : (s t : List ℕ) (a b a' b' : ℕ) (X : Type 0) → SameBytes s t a b a' b' → ((n : ℕ) → a' ≡ n + a → b' ≡ n + b → a ≤ b → b ≤ length s → n + b ≤ length t → ((i : ℕ) → a ≤ i → i < b → get_or s i 0 ≡ get_or t (n + i) 0) → X) → ((n : ℕ) → a ≡ n + a' → b ≡ n + b' → a' ≤ b' → b' ≤ length t → n + b' ≤ length s → ((i : ℕ) → a' ≤ i → i < b' → get_or t i 0 ≡ get_or s (n + i) 0) → X) → X
further s t a b a' b' X e on back =
    by_case (ltb a' a)
    (λ h.
    let l : a' < a = ltb-true a' a h in
    back (a - a') (omega arith) (omega (arith, e.end, e.order)) (omega (arith, e.end)) e.within' (omega (arith, e.end, e.order, e.within)) (λ i p q.
    let x : a' + (i - a') ≡ i = omega arith in
    let y : a + (i - a') ≡ a - a' + i = omega arith in
    let z : i - a' < b - a = omega (arith, e.end) in
    sym (ap (λ (j : ℕ). get_or s j 0) (sym y) ∙ e.same (i - a') z ∙ ap (λ (j : ℕ). get_or t j 0) x)))
    (λ h.
    let l : a ≤ a' = ltb-false a' a h in
    on (a' - a) (omega arith) (omega (arith, e.end, e.order)) e.order e.within (omega (arith, e.end, e.order, e.within')) (λ i p q.
    let x : a + (i - a) ≡ i = omega arith in
    let y : a' + (i - a) ≡ a' - a + i = omega arith in
    let z : i - a < b - a = omega arith in
    ap (λ (j : ℕ). get_or s j 0) (sym x) ∙ e.same (i - a) z ∙ ap (λ (j : ℕ). get_or t j 0) y))

module _ (s t : List ℕ) (n b : ℕ) (k : b ≤ length s) (k' : n + b ≤ length t) where
  -- ---- annotation IDs

  abbrev pub moved_id : Annotated → Annotated
  moved_id (ident id next) = ident id (n + next)
  moved_id finished = finished

  pub annotation_moved : (a : ℕ) → a ≤ b → ((i : ℕ) → a ≤ i → i < b → get_or s i 0 ≡ get_or t (n + i) 0) → Moved n moved_id (read_annotation s a b) (read_annotation t (n + a) (n + b))
  unfolding read_annotation
  annotation_moved a l same =
      rw (inside s a b l k, inside t (n + a) (n + b) (omega arith) k', same_moved n a b)
      (moved_pick (eqb a b) (λ _. given_on) (λ _. moved_then identified identified (var_uint_moved s t n a b l k k' same) (λ u _. given_on)))

  on-id : (j a : ℕ) → ((m : ℕ) → a < m → m ≤ b → Alike (ids_from j s b m) (ids_from j t (n + b) (n + m))) → (x : Annotated) → NextIn s a b x → Alike (on_id (ids_from j s b) x) (on_id (ids_from j t (n + b)) (moved_id x))
  on-id j a go (ident id m) p = go m p.0 p.1
  on-id j a go finished p = both_give

  ids_on : (j a : ℕ) → a ≤ b → ((i : ℕ) → a ≤ i → i < b → get_or s i 0 ≡ get_or t (n + i) 0) → Alike (ids_from j s b a) (ids_from j t (n + b) (n + a))
  unfolding ids_from
  ids_on zero a l same = both_give
  ids_on (suc j) a l same =
      moved_alike (on_id (ids_from j s b)) (on_id (ids_from j t (n + b))) (annotation_moved a l same) (λ x e.
      on-id j a (λ m p q. ids_on j m q (λ i c d. same i (omega arith) d)) x (each_of (annotation_each s a b) e))

  -- ---- a scalar

  module _ (a : ℕ) (l : a ≤ b) (same : (i : ℕ) → a ≤ i → i < b → get_or s i 0 ≡ get_or t (n + i) 0) where
    pub difference : n + b - (n + a) ≡ b - a
    difference = omega arith

    pub utf8_moved : utf8 t (n + a) (n + b) ≡ utf8 s a b
    unfolding utf8
    utf8_moved = rw (inside s a b l k, inside t (n + a) (n + b) (omega arith) k', part_moved s t n a b l k k' same a b (omega arith) (omega arith))

    nonzero_moved : (m at : ℕ) → a ≤ at → at + m ≤ b → nonzero_among t (n + at) m ≡ n + nonzero_among s at m
    unfolding nonzero_among
    nonzero_moved zero at p q = refl
    nonzero_moved (suc m) at p q =
        let e : suc (n + at) ≡ n + suc at = omega arith in
        rw (← same at p (omega arith), e)
        (by_case (eqb (get_or s at 0) 0) (λ h. rw h (nonzero_moved m (suc at) (omega arith) (omega arith))) (λ h. rw h))

    pub significant_moved : significant_from t (n + a) (n + b) ≡ n + significant_from s a b
    unfolding significant_from
    significant_moved =
        rw (inside s a b l k, inside t (n + a) (n + b) (omega arith) k', difference) (nonzero_moved (b - a) a (omega arith) (omega arith))

    done_moved : (o : Outcome Split) → Alike (and_then o as_done) (and_then (moved_decimal n o) as_done)
    done_moved (gives d) = both_give
    done_moved (refuses number p) = both_refuse

    split_alike : Alike (and_then (split_decimal s a b) as_done) (and_then (split_decimal t (n + a) (n + b)) as_done)
    split_alike = subst (λ (o : Outcome Split). Alike (and_then (split_decimal s a b) as_done) (and_then o as_done)) (sym (decimals-moved s t n a b l k k' same)) (done_moved (split_decimal s a b))

    tested : (x y z : Bool) (d d' : ℕ) (u : Stamp) → Alike (and_then (refuse_if x 61 d (refuse_if y 63 d (refuse_if z 62 d (gives u)))) as_done) (and_then (refuse_if x 61 d' (refuse_if y 63 d' (refuse_if z 62 d' (gives u)))) as_done)
    tested true y z d d' u = both_refuse
    tested false true z d d' u = both_refuse
    tested false false true d d' u = both_refuse
    tested false false false d d' u = both_give

    judged_moved : (d d' : ℕ) (o : Outcome Encoded) → Alike (and_then (and_then o (judged d)) as_done) (and_then (and_then (moved_encoded n o) (judged d')) as_done)
    unfolding judged ranged
    judged_moved d d' (gives e) = tested (hour_alone e.fields) (too_wide e.fraction) (out_of_range e) d d' (stamp_of e)
    judged_moved d d' (refuses number p) = both_refuse

    stamp_alike : (d d' : ℕ) → Alike (and_then (read_stamp d s a b) as_done) (and_then (read_stamp d' t (n + a) (n + b)) as_done)
    unfolding read_stamp
    stamp_alike d d' =
        subst (λ (o : Outcome Encoded). Alike (and_then (and_then (encoded s a b) (judged d)) as_done) (and_then (and_then o (judged d')) as_done)) (sym (timestamps-moved s t n a b l k k' same)) (judged_moved d d' (encoded s a b))

-- what is left to be read of both
abbrev Left : List ℕ → List ℕ → ℕ → ℕ → Scalar → Scalar → Type 0
Left s t d d' x y = Alike (read_body s d x) (read_body t d' y)

scalars_on : (s t : List ℕ) (n : ℕ) (v w : Spans) → w.byte ≡ v.byte → w.body ≡ n + v.body → w.end ≡ n + v.end → v.body ≤ v.end → v.end ≤ length s → n + v.end ≤ length t → ((i : ℕ) → v.body ≤ i → i < v.end → get_or s i 0 ≡ get_or t (n + i) 0) → AlikeBy (Left s t v.descriptor w.descriptor) (scalar_of s v) (scalar_of t w)
unfolding scalar_of typed_of bool_of positive_of negative_of float_of symbol_of string_of
scalars_on s t n v w e p q l k k' same =
    rw
    (e, p, q, difference s t n v.end k k' v.body l same, utf8_moved s t n v.end k k' v.body l same, significant_moved s t n v.end k k' v.body l same, same_moved n (significant_from s v.body v.end) v.end)
    (by_pick (eqb (code_of v) 15) (λ _. given_both both_give) (λ _.
    by_pick (eqb (type_of v) 1) (λ _. by_refuse (ltb 1 (code_of v)) 33 v.descriptor w.descriptor (λ _. given_both both_give)) (λ _.
    by_pick (eqb (type_of v) 2) (λ _. given_both both_give) (λ _.
    by_pick (eqb (type_of v) 3)
    (λ _. by_refuse (eqb (significant_from s v.body v.end) v.end) 34 v.descriptor w.descriptor (λ _. given_both both_give)) (λ _.
    by_pick (eqb (type_of v) 4)
    (λ _.
    by_pick (eqb (v.end - v.body) 0) (λ _. given_both both_give) (λ _.
    by_pick (eqb (v.end - v.body) 4) (λ _. given_both both_give) (λ _. given_both both_give)))
    (λ _.
    by_pick (eqb (type_of v) 5) (λ _. given_both (split_alike s t n v.end k k' v.body l same)) (λ _.
    by_pick (eqb (type_of v) 6) (λ _. given_both (stamp_alike s t n v.end k k' v.body l same v.descriptor w.descriptor)) (λ _.
    by_pick (eqb (type_of v) 7) (λ _. by_refuse (ltb 8 (v.end - v.body)) 35 v.descriptor w.descriptor (λ _. given_both both_give)) (λ _.
    by_pick (eqb (type_of v) 8) (λ _. by_refuse (not (utf8 s v.body v.end)) 36 v.descriptor w.descriptor (λ _. given_both both_give)) (λ _.
    by_pick (eqb (type_of v) 9) (λ _. given_both both_give) (λ _.
    by_pick (eqb (type_of v) 10) (λ _. given_both both_give) (λ _. given_both both_give))))))))))))

content_on : (s t : List ℕ) (n : ℕ) (v w : Spans) → w.byte ≡ v.byte → w.body ≡ n + v.body → w.end ≡ n + v.end → v.body ≤ v.end → v.end ≤ length s → n + v.end ≤ length t → ((i : ℕ) → v.body ≤ i → i < v.end → get_or s i 0 ≡ get_or t (n + i) 0) → Alike (read_content s v) (read_content t w)
unfolding read_content
content_on s t n v w e p q l k k' same =
    alike_then (read_body s v.descriptor) (read_body t w.descriptor) (scalars_on s t n v w e p q l k k' same) (λ x y r. r)

pub ids_alike : IdsAlike
unfolding read_ids
ids_alike s t a b a' b' e =
    further s t a b a' b' (Alike (read_ids s a b) (read_ids t a' b')) e
    (λ n p q l k k' same.
    let d : b' - a' ≡ b - a = omega arith in
    subst (λ (x : ℕ). Alike (read_ids s a b) (ids_from (b' - a') t b' x)) (sym p)
    (subst (λ (x : ℕ). Alike (read_ids s a b) (ids_from (b' - a') t x (n + a))) (sym q)
    (subst (λ (x : ℕ). Alike (read_ids s a b) (ids_from x t (n + b) (n + a))) (sym d) (ids_on s t n b k k' (b - a) a l same))))
    (λ n p q l k k' same.
    let d : b - a ≡ b' - a' = omega arith in
    alike_sym
    (subst (λ (x : ℕ). Alike (read_ids t a' b') (ids_from (b - a) s b x)) (sym p)
    (subst (λ (x : ℕ). Alike (read_ids t a' b') (ids_from (b - a) s x (n + a'))) (sym q)
    (subst (λ (x : ℕ). Alike (read_ids t a' b') (ids_from x s (n + b') (n + a'))) (sym d) (ids_on t s n b' k k' (b' - a') a' l same)))))

pub contents_alike : ContentsAlike
contents_alike s t v w e same =
    further s t v.body v.end w.body w.end (Alike (read_content s v) (read_content t w)) same
    (λ n p q l k k' h. content_on s t n v w e p q l k k' h)
    (λ n p q l k k' h. alike_sym (content_on t s n w v (sym e) p q l k k' h))

pub items_alike : ItemsAlike
unfolding read_item
items_alike s t v w e ids body = go (read_ids s v.annotations v.descriptor) (read_ids t w.annotations w.descriptor) (ids_alike s t v.annotations v.descriptor w.annotations w.descriptor ids)
  where
    go : (o o' : Outcome Done) → Alike o o' → Alike (and_then o (content_next s v)) (and_then o' (content_next t w))
    go (gives done) (gives done) both_give = contents_alike s t v w e body
    go (gives done) (refuses m' q) x = elim x [ ]
    go (refuses m p) (gives _) x = elim x [ ]
    go (refuses m p) (refuses m' q) both_refuse = both_refuse
