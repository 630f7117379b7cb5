-- What is refused of a container that is to be written is what the check refuses of it as a map: the map's one value is framed, and its body is checked as it is
-- by itself.
-- Assumes nothing.
use Prim.Native.Nat.{ℕ, suc, ◌+◌, ◌-◌, ◌≤◌, ◌<◌}
use native.Mathlib.Omega.{arith}
use borrow.Author.Tests.{lt-ltb, le-ltb, ltb-true, ne_eqb}
use mathlib.Core.Path.{◌≡◌, refl, ◌∙◌, sym, ap, subst}
use mathlib.Core.Bool.{true, false}
use mathlib.Core.List.{List, ◌++◌}
use lib.ListN.{length, get_or}
use lib.Dec.{ltb, eqb}
use Rattle.numbers.specs.Outcome.{Outcome, gives, refuses, and_then}
use Rattle.numbers.proofs.Outcomes.{by_test, inside}
use Rattle.framing.specs.Limits.{out_of_range}
use Rattle.framing.specs.Spans.{Spans}
use Rattle.framing.specs.Answers.{valued, read_frame}
use Rattle.framing.specs.Format.{plain}
use Rattle.framing.proofs.Completeness.{values-complete}
use Rattle.stepping.specs.Items.{value}
use Rattle.stepping.specs.Answers.{stop, framed_at, tile_at, skip_pads, found}
use Rattle.stepping.specs.Runs.{cursor}
use Rattle.stepping.specs.declared.cursor.Rules.{Rules}
use Rattle.stepping.specs.declared.cursor.Rules.TheVariants.{Stream}
use Rattle.values.specs.Scalars.{is_container, body_rules, scalar_of, typed_of}
use Rattle.walking.specs.Walk.{limits_out}
use Rattle.walking.proofs.Depths.{in_limit, depth_some}
use Rattle.checking.specs.Counts.{none, pads, place_of, counting}
use Rattle.checking.specs.Reading.{done, as_done, read_content, read_item}
use Rattle.checking.specs.Check.{Parts, value_check, on_found, part_check, whole_check}
use Rattle.checking.specs.Body.{body_check}
use Rattle.checking.specs.Private.Whole.{full}
use Rattle.checking.proofs.Ids.{ids_none}
use Rattle.checking.proofs.Unrolled.{unrolled, whole_in}
use Rattle.encoding.specs.Heads.{head_bytes, head_code, head_byte, head_size, typed_bytes, typed_spans}
use Rattle.encoding.specs.Meaning.{StandsAt, Writable}
use Rattle.encoding.proofs.Heads.{head_type, head-code, head_length, typed_length, typed-back}
use Rattle.encoding.proofs.Standing.{stands_at, stands_by, stands_rest}
use Rattle.writing.specs.Answers.{rules_of, judged_container}
use Rattle.writing.specs.Judged.{counted_from, JudgedContainers, AcceptedContainers}
use Rattle.writing.proofs.Lengths.{not_past}
use Rattle.writing.proofs.Stages.{contains}
use Rattle.writing.proofs.ChecksMoved.{Counted, both_give, both_refuse, part_counted}
use Rattle.writing.proofs.OneByte.{one_byte_struct}

-- ---- a map of one value

pub stands_whole : (s : List ℕ) → StandsAt s 0 (length s) s
stands_whole s =
    stands_by s 0 (length s) s (omega arith) (omega arith) (λ i h. ap (λ (j : ℕ). get_or s j 0) (let z : 0 + i ≡ i = omega arith in z))

module _ (limit : ℕ) (s : List ℕ) (g : out_of_range limit ≡ false) where
  pub found_value : (v : Spans) → 0 < length s → (get_or s 0 0 ≡ 224 → ⊥) → read_frame limit s 0 (length s) ≡ gives (valued v) → found limit Stream s (cursor 0 (length s)) ≡ stop (gives (value v))
  unfolding found skip_pads tile_at framed_at
  found_value v h n q =
      let e : length s - 0 ≡ suc (length s - 1) = omega arith in
      rw (g, inside s 0 (length s) (omega arith) (omega arith), e, lt-ltb 0 (length s) h, ne_eqb (get_or s 0 0) 224 n, q)

  -- at the end nothing is left
  pub full_end : (rules : Rules) (room hi : ℕ) (c : List ℕ) → full limit s rules room hi hi c ≡ gives c
  unfolding full part_check
  full_end rules room hi c = let z : hi - hi ≡ 0 = omega arith in rw z

  pub then_given : (o : Outcome (List ℕ)) (k : List ℕ → Outcome (List ℕ)) → ((c : List ℕ) → k c ≡ gives c) → and_then o k ≡ o
  then_given (gives c) k h = h c
  then_given (refuses n p) k h = refl

  pub whole_value : (deepest : ℕ) (v : Spans) → limits_out limit deepest ≡ false → found limit Stream s (cursor 0 (length s)) ≡ stop (gives (value v)) → v.end ≡ length s → whole_check limit deepest s ≡ value_check s (full limit s) deepest v (counting pads 0 none)
  whole_value deepest v l f e =
      sym (whole_in limit deepest s l)
      ∙ unrolled limit s g Stream deepest (length s) 0 none (omega arith) (omega arith)
      ∙ ap (on_found s (full limit s) (full limit s Stream deepest (length s)) deepest none) f
      ∙ then_given (value_check s (full limit s) deepest v (counting pads 0 none)) (full limit s Stream deepest (length s) v.end) (λ c. ap (λ (x : ℕ). full limit s Stream deepest (length s) x c) e ∙ full_end Stream deepest (length s) c)

-- ---- a container

pub code_known : (n : ℕ) → eqb (head_code n) 15 ≡ false
unfolding head_code
code_known n = by_test (λ (c : ℕ). eqb c 15 ≡ false) (ltb n 14) (λ e. ne_eqb n 15 (omega (arith, ltb-true n 14 e))) (λ _. refl)

container_is : (type n : ℕ) → 10 < type → is_container (typed_spans type 0 n) ≡ true
unfolding is_container
container_is type n h = rw (head-code type n, code_known n, head_type type n, lt-ltb 10 type h)

rules_are : (type n : ℕ) → body_rules (typed_spans type 0 n) ≡ rules_of type
rules_are type n = rw (head_type type n)

content_done : (s : List ℕ) (type n : ℕ) → 10 < type → read_content s (typed_spans type 0 n) ≡ gives done
unfolding read_content scalar_of typed_of
content_done s type n h =
    rw (head-code type n, code_known n, head_type type n, ne_eqb type 1 (omega arith), ne_eqb type 2 (omega arith), ne_eqb type 3 (omega arith), ne_eqb type 4 (omega arith), ne_eqb type 5 (omega arith), ne_eqb type 6 (omega arith), ne_eqb type 7 (omega arith), ne_eqb type 8 (omega arith), ne_eqb type 9 (omega arith), ne_eqb type 10 (omega arith))

value_inside : (s : List ℕ) (P : Parts) (deepest type n : ℕ) (c : List ℕ) → 10 < type → 1 ≤ deepest → value_check s P deepest (typed_spans type 0 n) c ≡ P (rules_of type) (deepest - 1) (0 + head_size n + n) (0 + head_size n) (counting (place_of (typed_spans type 0 n)) 1 c)
unfolding value_check read_item
value_inside s P deepest type n c h d =
    rw (ids_none s 0 0 (omega arith), content_done s type n h, container_is type n h, le-ltb deepest 1 d, rules_are type n)

pub counted_is : (n : ℕ) {A : Type 0} {o : Outcome A} {o' : Outcome (List ℕ)} → Counted n o o' → and_then o as_done ≡ counted_from n o'
counted_is n both_give = refl
counted_is n (both_refuse {number = k} e) = ap (refuses k) (sym e)

pub judged_as_a_map : JudgedContainers
unfolding judged_container body_check typed_bytes full
judged_as_a_map limit deepest type body l i t one =
    let n : ℕ = length body in
    let s : List ℕ = head_bytes type n ++ body in
    let h : ℕ = head_size n in
    let g : out_of_range limit ≡ false = in_limit limit deepest l in
    let low : 11 ≤ type = (contains type i).low in
    let high : type ≤ 13 = (contains type i).high in
    let size : length s ≡ h + n = typed_length type body in
    let b : StandsAt s 0 (length s) s = stands_whole s in
    let w : Writable type n = record { low = omega arith; high = high; float = λ e. absurd (omega arith); timestamp = λ e. absurd (omega arith); struct = one; small = not_past n t } in
    let v = typed-back s 0 (length s) type body w b in
    let frame : read_frame limit s 0 (length s) ≡ gives (valued (typed_spans type 0 n)) = (values-complete limit s 0 (length s) (typed_spans type 0 n) (plain v.0) (omega (arith, v.1))).1 in
    let byte : get_or s 0 0 ≡ head_byte type n = sym v.0.byte in
    let f = found_value limit s g (typed_spans type 0 n) (omega (arith, v.0.low, v.0.order, v.0.fits)) (λ e. absurd (omega (arith, head_type type n, byte))) frame in
    let z : h + 0 ≡ 0 + h = omega arith in
    let y : h + n ≡ 0 + h + n = omega arith in
    let m : 0 + h + n - (0 + h) ≡ n = omega arith in
    let c : List ℕ = counting (place_of (typed_spans type 0 n)) 1 (counting pads 0 none) in
    let upper : StandsAt s (0 + length (head_bytes type n)) (length s) body = stands_rest (head_bytes type n) body b in
    let place : 0 + length (head_bytes type n) ≡ h = omega (arith, head_length type n) in
    let there : StandsAt s h (length s) body = subst (λ (x : ℕ). StandsAt s x (length s) body) place upper in
    let k = part_counted limit body s h 0 n g (omega arith) (omega arith) (λ j _ q. sym (stands_at there j q)) n (rules_of type) (deepest - 1) n 0 none c (omega arith) (omega arith) (omega arith) in
    counted_is h k
    ∙ sym (ap (counted_from h)
    (whole_value limit s g deepest (typed_spans type 0 n) l f (omega arith)
    ∙ value_inside s (full limit s) deepest type n (counting pads 0 none) (omega arith) (depth_some limit deepest l)
    ∙ ap (λ (x : ℕ). part_check limit x s (rules_of type) (deepest - 1) (0 + h + n) (0 + h) c) m
    ∙ ap (λ (x : ℕ). part_check limit n s (rules_of type) (deepest - 1) x (0 + h) c) (sym y)
    ∙ ap (λ (x : ℕ). part_check limit n s (rules_of type) (deepest - 1) (h + n) x c) (sym z)))

pub given_back : (n : ℕ) (o : Outcome (List ℕ)) → counted_from n o ≡ gives done → (c : List ℕ) × (o ≡ gives c)
given_back n (gives c) e = (c, refl)
given_back n (refuses k p) e = absurd (let z : ◌≡◌ {A = ℕ} 0 1 = cc in omega arith)

pub accepted_as_a_map : AcceptedContainers
accepted_as_a_map limit deepest type body l h =
    given_back (head_size (length body)) (whole_check limit deepest (typed_bytes type body))
    (sym (judged_as_a_map limit deepest type body l h.inside h.short (λ e n. one_byte_struct limit deepest type body e n h.unrefused)) ∙ h.unrefused)
