-- Runs of steps: one more answer, and the last; and their records stored one after the other.
-- Assumes nothing.
use Prim.Native.Nat.{ℕ, zero, suc, ◌+◌, ◌-◌, ◌*◌, ◌≤◌}
use native.Mathlib.Omega.{arith}
use native.Mathlib.Nat.{add-zero}
use Rattle.std.specs.Prelude.{Option, Some, None}
use mathlib.Core.Path.{◌≡◌, refl, ◌∙◌, sym, ap}
use mathlib.Core.List.{List, [], ◌∷◌, ◌++◌, append_assoc, append-nil}
use lib.ListN.{length, set, take, drop, length-append, drop_of_length-le}
use borrow.Author.Tests.{le-ltb}
use lib.Seq.{sets, sets-eq}
use borrow.Rule.Slice.PartMut.{mid_of, post_of, put_mid, Post-is, mid_len}
use Rattle.numbers.specs.Outcome.{Outcome, gives, refuses}
use Rattle.stepping.specs.Items.{Item, finish, marker, value, field}
use Rattle.stepping.specs.Answers.{answer_at}
use Rattle.stepping.specs.Leaving.{left_of, on_left}
use Rattle.stepping.specs.declared.cursor.Rules.{Rules}
use Rattle.stepping.proofs.Places.{a_marker, a_value, a_field, in_ends}
use Rattle.stepping.proofs.Moves.{Moves, ends, hands, stops, moves}
use Rattle.records.specs.Buffer.{bytes_of, record_words, record_size, record_in, words_in}
use Rattle.records.specs.Words.{words}
use Rattle.records.proofs.Storing.{length_bytes, bytes_append}
use Rattle.batches.specs.Steps.{all_words, records_in}
use Rattle.batches.specs.Private.Run.{step_run}

-- ---- what follows an answer

module _ (limit : ℕ) (rules : Rules) (s : List ℕ) (at end : ℕ) {n m : ℕ} (q : n ≡ suc m) where
  pub one_more : (e : ℕ) → left_of (answer_at limit rules s at end) ≡ Some e → step_run limit n rules s at end ≡ answer_at limit rules s at end ∷ step_run limit m rules s e end
  unfolding step_run
  one_more e h =
      rw q (ap (λ (l : Option ℕ). answer_at limit rules s at end ∷ on_left l [] (λ p. step_run limit m rules s p end)) h)

  pub the_last : left_of (answer_at limit rules s at end) ≡ None → step_run limit n rules s at end ≡ answer_at limit rules s at end ∷ []
  unfolding step_run
  the_last h =
      rw q (ap (λ (l : Option ℕ). answer_at limit rules s at end ∷ on_left l [] (λ p. step_run limit m rules s p end)) h)

pub none_left : (limit : ℕ) (rules : Rules) (s : List ℕ) (at end : ℕ) {n : ℕ} → n ≡ 0 → step_run limit n rules s at end ≡ []
unfolding step_run
none_left limit rules s at end q = rw q

-- an answer that leaves its caller at a place leaves it in the part
pub left_in : (limit : ℕ) (rules : Rules) (s : List ℕ) (at end : ℕ) → at ≤ end → end ≤ length s → (e : ℕ) → left_of (answer_at limit rules s at end) ≡ Some e → e ≤ end
left_in limit rules s at end l m e = left_moved e (moves limit rules s end m at l)
  where
    left_moved : (e : ℕ) {o : Outcome Item} → Moves at end o → left_of o ≡ Some e → e ≤ end
    left_moved e ends h = absurd cc
    left_moved e (hands (a_marker {e = f} p q)) h = let z : f ≡ e = cc in omega arith
    left_moved e (hands (a_value {v} i)) h = let z : v.end ≡ e = cc in omega (arith, (in_ends (a_value i)).1)
    left_moved e (hands (a_field {id} {a} {v} i)) h = let z : v.end ≡ e = cc in omega (arith, (in_ends (a_field {id = id} {a = a} i)).1)
    left_moved e (stops x) h = absurd cc

-- ---- lists stored in a buffer one after the other

sets_append : (l : List ℕ) (i : ℕ) (a b : List ℕ) → sets l i (a ++ b) ≡ sets (sets l i a) (i + length a) b
sets_append l i [] b = rw (add-zero i)
sets_append l i (x ∷ a) b =
    let e : suc i + length a ≡ i + length (x ∷ a) = omega arith in
    sets_append (set l i x) (suc i) a b ∙ ap (λ (k : ℕ). sets (sets (set l i x) (suc i) a) k b) e

-- the words of a record stored at the buffer's start are the record
record_is : (ws old : List ℕ) → length ws ≡ record_words → record_size ≤ length old → sets old 0 (bytes_of ws) ≡ record_in ws old
unfolding words_in
record_is ws old e h =
    let n : length (bytes_of ws) ≡ record_size = omega (arith, length_bytes ws) in
    let m : 0 + length (bytes_of ws) ≡ record_size = omega arith in
    rw (le-ltb (length old) record_size h) (sets-eq (bytes_of ws) old 0 (omega arith) ∙ ap (λ (k : ℕ). bytes_of ws ++ drop k old) m)

-- ---- their records

pub words_all : (o : Outcome Item) → length (words o) ≡ record_words
words_all (gives (finish p)) = refl
words_all (gives (marker a x y e)) = refl
words_all (gives (value v)) = refl
words_all (gives (field id a v)) = refl
words_all (refuses n p) = refl

-- the next record stored, and those behind it
pub next_record : (l : List ℕ) (i : ℕ) (o : Outcome Item) (os : List (Outcome Item)) → sets (sets l i (bytes_of (words o))) (i + record_size) (bytes_of (all_words os)) ≡ sets l i (bytes_of (all_words (o ∷ os)))
next_record l i o os =
    let e : length (bytes_of (words o)) ≡ record_size = omega (arith, length_bytes (words o), words_all o) in
    ap (λ (k : ℕ). sets (sets l i (bytes_of (words o))) (i + k) (bytes_of (all_words os))) (sym e)
    ∙ sym (sets_append l i (bytes_of (words o)) (bytes_of (all_words os)))
    ∙ ap (sets l i) (sym (bytes_append (words o) (all_words os)))

-- a buffer of a record's size is all record
record_whole : (ws old : List ℕ) → length old ≡ record_size → record_in ws old ≡ bytes_of ws
unfolding words_in
record_whole ws old e =
    let h : length old ≤ record_size = omega arith in
    rw (le-ltb (length old) record_size (omega arith))
    (ap (λ (l : List ℕ). bytes_of ws ++ l) (drop_of_length-le old h) ∙ append-nil (bytes_of ws))

-- a record put into the part of the buffer that is its own
pub put_part : (ws old : List ℕ) (at : ℕ) → length ws ≡ record_words → at + record_size ≤ length old → put_mid at (at + record_size - at) old (record_in ws (mid_of at (at + record_size - at) old)) ≡ sets old at (bytes_of ws)
put_part ws old at e h =
    let n : length (bytes_of ws) ≡ record_size = omega (arith, length_bytes ws) in
    let m : length (mid_of at (at + record_size - at) old) ≡ record_size = mid_len at (at + record_size) old h ∙ omega arith in
    ap (λ (l : List ℕ). take at old ++ (l ++ post_of at (at + record_size - at) old)) (record_whole ws (mid_of at (at + record_size - at) old) m)
    ∙ ap (λ (l : List ℕ). take at old ++ (bytes_of ws ++ l)) (Post-is at (at + record_size) old (omega arith))
    ∙ ap (λ (k : ℕ). take at old ++ (bytes_of ws ++ drop (at + k) old)) (sym n)
    ∙ sym (append_assoc (take at old) (bytes_of ws) (drop (at + length (bytes_of ws)) old))
    ∙ sym (sets-eq (bytes_of ws) old at (omega arith))

pub length_all : (os : List (Outcome Item)) → length (all_words os) ≡ record_words * length os
length_all [] = refl
length_all (o ∷ os) = length-append (words o) (all_words os) ∙ omega (arith, words_all o, length_all os)

-- the records of answers stored at the buffer's start
pub records_are : (os : List (Outcome Item)) (old : List ℕ) → record_size * length os ≤ length old → record_size ≤ length old → sets old 0 (bytes_of (all_words os)) ≡ records_in os old
unfolding records_in
records_are os old k h =
    let n : length (bytes_of (all_words os)) ≡ record_size * length os = omega (arith, length_bytes (all_words os), length_all os) in
    let m : 0 + length (bytes_of (all_words os)) ≡ record_size * length os = omega arith in
    rw (le-ltb (length old) record_size h) (sets-eq (bytes_of (all_words os)) old 0 (omega arith) ∙ ap (λ (i : ℕ). bytes_of (all_words os) ++ drop i old) m)

-- one record is the record
pub one_record : (o : Outcome Item) (old : List ℕ) → record_size ≤ length old → record_in (words o) old ≡ records_in (o ∷ []) old
one_record o old h =
    sym (record_is (words o) old (words_all o) h)
    ∙ ap (λ (ws : List ℕ). sets old 0 (bytes_of ws)) (sym (append-nil (words o)))
    ∙ records_are (o ∷ []) old (omega arith) h

-- a list of n calls has n answers at most
behind_short : (n : ℕ) (go : ℕ → List (Outcome Item)) → ((e : ℕ) → length (go e) ≤ n) → (l : Option ℕ) → length (on_left l [] go) ≤ n
behind_short n go h (Some e) = h e
behind_short n go h None = omega arith

pub run_short : (limit : ℕ) (n : ℕ) (rules : Rules) (s : List ℕ) (at end : ℕ) → length (step_run limit n rules s at end) ≤ n
unfolding step_run
run_short limit zero rules s at end = omega arith
run_short limit (suc n) rules s at end =
    let b = behind_short n (λ e. step_run limit n rules s e end) (λ e. run_short limit n rules s e end) (left_of (answer_at limit rules s at end)) in
    omega (arith, b)
