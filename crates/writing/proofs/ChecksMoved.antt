-- The same bytes n further on are checked the same: both checks give, or both are refused with one number, at positions n apart. A descriptor that stands
-- before those bytes counts as the place 0.
-- Assumes nothing.
use Prim.Native.Nat.{ℕ, zero, suc, ◌+◌, ◌-◌, ◌≤◌, ◌<◌}
use native.Mathlib.Omega.{arith}
use mathlib.Core.Path.{◌≡◌, refl}
use mathlib.Core.Bool.{Bool, true, false, not}
use mathlib.Core.List.{List}
use lib.ListN.{length, get_or}
use lib.Dec.{ltb, eqb}
use Rattle.numbers.specs.Outcome.{Outcome, gives, refuses, pick, refuse_if, and_then}
use Rattle.numbers.proofs.Outcomes.{each_of}
use Rattle.numbers.proofs.Moving.{Moved, given_on, refused_on, same_moved}
use Rattle.framing.specs.Limits.{out_of_range}
use Rattle.framing.specs.Spans.{Spans}
use Rattle.framing.specs.Answers.{Annotated, ident, finished}
use Rattle.bodies.specs.Utf8.{utf8}
use Rattle.bodies.specs.Magnitude.{significant_from}
use Rattle.bodies.specs.Decimal.{Split, decimal as split_decimal, moved_decimal}
use Rattle.timestamps.specs.Timestamp.{Encoded, encoded, out_of_range as stamp_out, stamp_of, ranged, hour_alone, too_wide, judged as stamp_judged, timestamp as read_stamp}
use Rattle.timestamps.specs.TimestampMeaning.{moved_encoded}
use Rattle.timestamps.specs.declared.timestamp.Stamp.{Stamp}
use Rattle.bodies.proofs.Splitting.{decimals-moved}
use Rattle.timestamps.proofs.StampMoving.{timestamps-moved}
use Rattle.stepping.specs.Items.{Item, finish, marker, value, field}
use Rattle.stepping.specs.Answers.{found}
use Rattle.stepping.specs.Runs.{cursor}
use Rattle.stepping.specs.declared.cursor.Rules.{Rules}
use Rattle.values.specs.Scalars.{type_of, code_of, is_container, body_rules, Scalar}
use Rattle.values.specs.Scalars.{bool_of, positive_of, negative_of, float_of, symbol_of, string_of, typed_of, scalar_of}
use Rattle.checking.specs.Counts.{markers, pads, place_of, counting}
use Rattle.checking.specs.Reading.{Done, done, as_done, on_id, ids_from, read_ids, read_body, read_content, content_next, read_item}
use Rattle.checking.specs.Check.{Parts, least_room, inside_of, value_check, on_answer, part_check}
use Rattle.checking.proofs.Ids.{NextIn, annotation_each}
use Rattle.checking.proofs.Moving.{moved_id, annotation_moved, difference, utf8_moved, significant_moved}
use Rattle.writing.proofs.FramesMoved.{moved_spans}
use Rattle.writing.proofs.StepsMoved.{moved_item, found_moved}
use Rattle.writing.proofs.ItemsIn.{PlacesIn, ItemIn, found_in}

pub data Counted {A B : Type 0} (n : ℕ) : Outcome A → Outcome B → Type 0 where
  both_give : {a : A} {b : B} → Counted n (gives a) (gives b)
  both_refuse : {number p q : ℕ} → q - n ≡ p → Counted n (refuses number p) (refuses number q)

-- where R holds of what both give
data CountedBy {A B : Type 0} (n : ℕ) (R : A → B → Type 0) : Outcome A → Outcome B → Type 0 where
  given_both : {a : A} {b : B} → R a b → CountedBy n R (gives a) (gives b)
  refused_both : {number p q : ℕ} → q - n ≡ p → CountedBy n R (refuses number p) (refuses number q)

further_on : (n p : ℕ) → n + p - n ≡ p
further_on n p = omega arith

by_pick : {A B : Type 0} {n : ℕ} {R : A → B → Type 0} (t : Bool) {x y : Outcome A} {x' y' : Outcome B} → (t ≡ true → CountedBy n R x x') → (t ≡ false → CountedBy n R y y') → CountedBy n R (pick t x y) (pick t x' y')
by_pick true h k = h refl
by_pick false h k = k refl

by_refuse : {A B : Type 0} {n : ℕ} {R : A → B → Type 0} (t : Bool) (number p q : ℕ) {x : Outcome A} {x' : Outcome B} → q - n ≡ p → (t ≡ false → CountedBy n R x x') → CountedBy n R (refuse_if t number p x) (refuse_if t number q x')
by_refuse true number p q e h = refused_both e
by_refuse false number p q e h = h refl

by_then : {A B C D : Type 0} {n : ℕ} {R : A → B → Type 0} {o : Outcome A} {o' : Outcome B} (f : A → Outcome C) (g : B → Outcome D) → CountedBy n R o o' → ((a : A) (b : B) → R a b → Counted n (f a) (g b)) → Counted n (and_then o f) (and_then o' g)
by_then f g (given_both {a} {b} r) h = h a b r
by_then f g (refused_both e) h = both_refuse e

pub counted_then : {A B C D : Type 0} {n : ℕ} {o : Outcome A} {o' : Outcome B} (f : A → Outcome C) (g : B → Outcome D) → Counted n o o' → ((a : A) (b : B) → Counted n (f a) (g b)) → Counted n (and_then o f) (and_then o' g)
counted_then f g (both_give {a} {b}) h = h a b
counted_then f g (both_refuse e) h = both_refuse e

moved_counted : {A B C : Type 0} {n : ℕ} {f : A → A} {o o' : Outcome A} (g : A → Outcome B) (h : A → Outcome C) → Moved n f o o' → ((a : A) → o ≡ gives a → Counted n (g a) (h (f a))) → Counted n (and_then o g) (and_then o' h)
moved_counted g h (given_on {a}) k = k a refl
moved_counted {n = n} g h (refused_on {position = p}) k = both_refuse (further_on n p)

module _ (s t : List ℕ) (n b : ℕ) (k : b ≤ length s) (k' : n + b ≤ length t) where
  on-id : (j a : ℕ) → ((m : ℕ) → a < m → m ≤ b → Counted n (ids_from j s b m) (ids_from j t (n + b) (n + m))) → (x : Annotated) → NextIn s a b x → Counted n (on_id (ids_from j s b) x) (on_id (ids_from j t (n + b)) (moved_id s t n b k k' x))
  on-id j a go (ident id m) p = go m p.0 p.1
  on-id j a go finished p = both_give

  ids_on : (j a : ℕ) → a ≤ b → ((i : ℕ) → a ≤ i → i < b → get_or s i 0 ≡ get_or t (n + i) 0) → Counted n (ids_from j s b a) (ids_from j t (n + b) (n + a))
  unfolding ids_from
  ids_on zero a l same = both_give
  ids_on (suc j) a l same =
      moved_counted (on_id (ids_from j s b)) (on_id (ids_from j t (n + b))) (annotation_moved s t n b k k' a l same) (λ x e.
      on-id j a (λ m p q. ids_on j m q (λ i c d. same i (omega arith) d)) x (each_of (annotation_each s a b) e))

  pub ids_counted : (a : ℕ) → a ≤ b → ((i : ℕ) → a ≤ i → i < b → get_or s i 0 ≡ get_or t (n + i) 0) → Counted n (read_ids s a b) (read_ids t (n + a) (n + b))
  unfolding read_ids
  ids_counted a l same = let z : n + b - (n + a) ≡ b - a = omega arith in rw z (ids_on (b - a) a l same)

  module _ (a : ℕ) (l : a ≤ b) (same : (i : ℕ) → a ≤ i → i < b → get_or s i 0 ≡ get_or t (n + i) 0) where
    done_moved : (o : Outcome Split) → Counted n (and_then o as_done) (and_then (moved_decimal n o) as_done)
    done_moved (gives d) = both_give
    done_moved (refuses number p) = both_refuse (further_on n p)

    split_counted : Counted n (and_then (split_decimal s a b) as_done) (and_then (split_decimal t (n + a) (n + b)) as_done)
    split_counted = rw (decimals-moved s t n a b l k k' same) (done_moved (split_decimal s a b))

    module _ (d d' : ℕ) (e : d' - n ≡ d) where
      tested : (x y z : Bool) (u : Stamp) → Counted n (and_then (refuse_if x 61 d (refuse_if y 63 d (refuse_if z 62 d (gives u)))) as_done) (and_then (refuse_if x 61 d' (refuse_if y 63 d' (refuse_if z 62 d' (gives u)))) as_done)
      tested true y z u = both_refuse e
      tested false true z u = both_refuse e
      tested false false true u = both_refuse e
      tested false false false u = both_give

      judged_moved : (o : Outcome Encoded) → Counted n (and_then (and_then o (stamp_judged d)) as_done) (and_then (and_then (moved_encoded n o) (stamp_judged d')) as_done)
      unfolding stamp_judged ranged
      judged_moved (gives x) = tested (hour_alone x.fields) (too_wide x.fraction) (stamp_out x) (stamp_of x)
      judged_moved (refuses number p) = both_refuse (further_on n p)

      stamp_counted : Counted n (and_then (read_stamp d s a b) as_done) (and_then (read_stamp d' t (n + a) (n + b)) as_done)
      unfolding read_stamp
      stamp_counted = rw (timestamps-moved s t n a b l k k' same) (judged_moved (encoded s a b))

-- what is left to be read of both
abbrev Left : ℕ → List ℕ → List ℕ → ℕ → ℕ → Scalar → Scalar → Type 0
Left n s t d d' x y = Counted n (read_body s d x) (read_body t d' y)

module _ (s t : List ℕ) (n : ℕ) (v w : Spans) (e : w.byte ≡ v.byte) (d : w.descriptor - n ≡ v.descriptor) (p : w.body ≡ n + v.body) (q : w.end ≡ n + v.end) (l : v.body ≤ v.end) (k : v.end ≤ length s) (k' : n + v.end ≤ length t) (same : (i : ℕ) → v.body ≤ i → i < v.end → get_or s i 0 ≡ get_or t (n + i) 0) where
  scalars_on : CountedBy n (Left n s t v.descriptor w.descriptor) (scalar_of s v) (scalar_of t w)
  unfolding scalar_of typed_of bool_of positive_of negative_of float_of symbol_of string_of
  scalars_on =
      rw
      (e, p, q, difference s t n v.end k k' v.body l same, utf8_moved s t n v.end k k' v.body l same, significant_moved s t n v.end k k' v.body l same, same_moved n (significant_from s v.body v.end) v.end)
      (by_pick (eqb (code_of v) 15) (λ _. given_both both_give) (λ _.
      by_pick (eqb (type_of v) 1) (λ _. by_refuse (ltb 1 (code_of v)) 33 v.descriptor w.descriptor d (λ _. given_both both_give)) (λ _.
      by_pick (eqb (type_of v) 2) (λ _. given_both both_give) (λ _.
      by_pick (eqb (type_of v) 3)
      (λ _. by_refuse (eqb (significant_from s v.body v.end) v.end) 34 v.descriptor w.descriptor d (λ _. given_both both_give)) (λ _.
      by_pick (eqb (type_of v) 4)
      (λ _.
      by_pick (eqb (v.end - v.body) 0) (λ _. given_both both_give) (λ _.
      by_pick (eqb (v.end - v.body) 4) (λ _. given_both both_give) (λ _. given_both both_give)))
      (λ _.
      by_pick (eqb (type_of v) 5) (λ _. given_both (split_counted s t n v.end k k' v.body l same)) (λ _.
      by_pick (eqb (type_of v) 6) (λ _. given_both (stamp_counted s t n v.end k k' v.body l same v.descriptor w.descriptor d)) (λ _.
      by_pick (eqb (type_of v) 7) (λ _. by_refuse (ltb 8 (v.end - v.body)) 35 v.descriptor w.descriptor d (λ _. given_both both_give)) (λ _.
      by_pick (eqb (type_of v) 8) (λ _. by_refuse (not (utf8 s v.body v.end)) 36 v.descriptor w.descriptor d (λ _. given_both both_give)) (λ _.
      by_pick (eqb (type_of v) 9) (λ _. given_both both_give) (λ _.
      by_pick (eqb (type_of v) 10) (λ _. given_both both_give) (λ _. given_both both_give))))))))))))

  pub content_counted : Counted n (read_content s v) (read_content t w)
  unfolding read_content
  content_counted = by_then (read_body s v.descriptor) (read_body t w.descriptor) scalars_on (λ x y r. r)

module _ (limit : ℕ) (s t : List ℕ) (n start end : ℕ) (g : out_of_range limit ≡ false) (k : end ≤ length s) (k' : n + end ≤ length t) (same : (i : ℕ) → start ≤ i → i < end → get_or s i 0 ≡ get_or t (n + i) 0) where
  item_counted : (at : ℕ) (v : Spans) → start ≤ at → PlacesIn at end v → Counted n (read_item s v) (read_item t (moved_spans n v))
  unfolding read_item
  item_counted at v a i =
      counted_then (content_next s v) (content_next t (moved_spans n v))
      (ids_counted s t n v.descriptor (omega (arith, i.bodied, i.ended, i.within)) (omega (arith, i.bodied, i.ended, i.within)) v.annotations i.described (λ j x y. same j (omega (arith, i.annotated)) (omega (arith, i.bodied, i.ended, i.within))))
      next
    where
      next : (x y : Done) → Counted n (content_next s v x) (content_next t (moved_spans n v) y)
      next done done =
          content_counted s t n v (moved_spans n v) refl (further_on n v.descriptor) refl refl i.ended (omega (arith, i.within)) (omega (arith, i.within)) (λ j x y. same j (omega (arith, i.annotated, i.described, i.bodied)) (omega (arith, i.within)))

  abbrev Alike : Parts → Parts → Type 0
  Alike P P' = (r : Rules) (room hi at : ℕ) (c c' : List ℕ) → start ≤ at → at ≤ hi → hi ≤ end → Counted n (P r room hi at c) (P' r room (n + hi) (n + at) c')

  inside_counted : (P P' : Parts) → Alike P P' → (room at : ℕ) (v : Spans) (c c' : List ℕ) → start ≤ at → PlacesIn at end v → (x y : Done) → Counted n (inside_of P room v c x) (inside_of P' room (moved_spans n v) c' y)
  unfolding is_container
  inside_counted P P' h room at v c c' a i done done =
      counted_pick (is_container v)
      (counted_pick (ltb room least_room) (both_refuse (further_on n v.descriptor))
      (h (body_rules v) (room - 1) v.end v.body (counting (place_of v) 1 c) (counting (place_of v) 1 c') (omega (arith, i.annotated, i.described, i.bodied)) i.ended i.within))
      both_give
    where
      counted_pick : {A B : Type 0} (x : Bool) {o u : Outcome A} {o' u' : Outcome B} → Counted n o o' → Counted n u u' → Counted n (pick x o u) (pick x o' u')
      counted_pick true p q = p
      counted_pick false p q = q

  value_counted : (P P' : Parts) → Alike P P' → (room at : ℕ) (v : Spans) (c c' : List ℕ) → start ≤ at → PlacesIn at end v → Counted n (value_check s P room v c) (value_check t P' room (moved_spans n v) c')
  unfolding value_check
  value_counted P P' h room at v c c' a i =
      counted_then (inside_of P room v c) (inside_of P' room (moved_spans n v) c') (item_counted at v a i) (inside_counted P P' h room at v c c' a i)

  answer_counted : (P P' : Parts) → Alike P P' → (O O' : ℕ → List ℕ → Outcome (List ℕ)) (room hi at : ℕ) → start ≤ at → hi ≤ end → ((e : ℕ) (c c' : List ℕ) → at ≤ e → e ≤ hi → Counted n (O e c) (O' (n + e) c')) → (c c' : List ℕ) {o o' : Outcome Item} → ((x : Item) → o ≡ gives x → ItemIn at hi x) → Moved n (moved_item n) o o' → Counted n (on_answer s P O room c o) (on_answer t P' O' room c' o')
  answer_counted P P' h O O' room hi at a b onward c c' lies (given_on {a = finish p}) = both_give
  answer_counted P P' h O O' room hi at a b onward c c' lies (given_on {a = marker x y z e}) =
      let i = lies (marker x y z e) refl in onward e (counting markers 1 c) (counting markers 1 c') (omega (arith, i.0)) i.1
  answer_counted P P' h O O' room hi at a b onward c c' lies (given_on {a = value v}) =
      behind v (lies (value v) refl)
    where
      behind : (v : Spans) → PlacesIn at hi v → Counted n (and_then (value_check s P room v c) (O v.end)) (and_then (value_check t P' room (moved_spans n v) c') (O' (n + v.end)))
      behind v i =
          counted_then (O v.end) (O' (n + v.end)) (value_counted P P' h room at v c c' a (record { annotated = i.annotated; described = i.described; bodied = i.bodied; ended = i.ended; within = omega (arith, i.within) })) (λ d d'. onward v.end d d' (omega (arith, i.annotated, i.described, i.bodied, i.ended)) i.within)
  answer_counted P P' h O O' room hi at a b onward c c' lies (given_on {a = field id x v}) =
      let i = lies (field id x v) refl in
      counted_then (O v.end) (O' (n + v.end)) (value_counted P P' h room at v c c' a (record { annotated = i.annotated; described = i.described; bodied = i.bodied; ended = i.ended; within = omega (arith, i.within) })) (λ d d'. onward v.end d d' (omega (arith, i.annotated, i.described, i.bodied, i.ended)) i.within)
  answer_counted P P' h O O' room hi at a b onward c c' lies (refused_on {position = p}) = both_refuse (further_on n p)

  pub part_counted : (j : ℕ) (rules : Rules) (room hi at : ℕ) (c c' : List ℕ) → start ≤ at → at ≤ hi → hi ≤ end → Counted n (part_check limit j s rules room hi at c) (part_check limit j t rules room (n + hi) (n + at) c')
  unfolding part_check
  part_counted zero rules room hi at c c' a b d = both_give
  part_counted (suc j) rules room hi at c c' a b d =
      let m = found_moved limit s t n start hi (omega arith) (omega arith) (λ i x y. same i x (omega arith)) g rules at a b in
      answer_counted (part_check limit j s) (part_check limit j t) (part_counted j) (part_check limit j s rules room hi) (part_check limit j t rules room (n + hi)) room hi at a d
      (λ e x y p q. part_counted j rules room hi e x y (omega arith) q d)
      (counting pads (length (found limit rules s (cursor at hi)).pads) c)
      (counting pads (length (found limit rules t (cursor (n + at) (n + hi))).pads) c')
      (λ x e. each_of (found_in limit rules s at hi) e)
      m.answer
