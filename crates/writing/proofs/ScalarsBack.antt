-- The scalar reading and stepping in give back what was written, wherever it stands: each value's reading, with the places of its framing.
-- Assumes nothing.
use Prim.Native.Nat.{ℕ, ◌+◌, ◌-◌, ◌*◌, ◌/◌, ◌%◌, ◌^◌, ◌≤◌, ◌<◌}
use native.Mathlib.Omega.{arith}
use borrow.Author.Tests.{ltb-true, ltb-false, eqb-true, eqb-false, lt-ltb, le-ltb, eq-eqb, ne_eqb, not-false}
use mathlib.Core.Path.{◌≡◌, refl, ◌∙◌, sym, ap, subst}
use mathlib.Core.Bool.{Bool, true, false, not, true≢false}
use mathlib.Core.List.{List, [], ◌∷◌}
use lib.ListN.{length, get_or}
use lib.Dec.{ltb, eqb}
use Rattle.numbers.specs.Outcome.{gives, pick}
use Rattle.numbers.specs.Bytes.{part}
use Rattle.numbers.specs.Format.{of_digits, uint_of}
use Rattle.numbers.proofs.Outcomes.{by_test, by_case, refuse_gives, then_gives}
use Rattle.numbers.proofs.Parts.{part_at}
use Rattle.framing.specs.Limits.{out_of_range}
use Rattle.framing.specs.Spans.{Spans}
use Rattle.framing.specs.Answers.{short_timestamp, read_value}
use Rattle.framing.specs.ShortValue.{bare_spans}
use Rattle.bodies.specs.Utf8.{utf8}
use Rattle.bodies.specs.Uint.{uint_in}
use Rattle.bodies.specs.Magnitude.{significant_from}
use Rattle.bodies.proofs.BigEndian.{uint_inside}
use Rattle.bodies.proofs.Leading.{significant_one}
use Rattle.values.specs.Scalars.{value_in, is_container, opened, step_in, read_scalar, scalar_of, typed_of, bool_of, positive_of, negative_of, float_of, symbol_of, string_of}
use Rattle.values.specs.Scalars as read
use Rattle.checking.specs.Reading.{done, read_body, read_content}
use Rattle.checking.proofs.Moving.{utf8_moved}
use Rattle.encoding.specs.Fields.{big_endian}
use Rattle.encoding.specs.Heads.{head_code, head_size, typed_spans}
use Rattle.encoding.specs.Meaning.{StandsAt}
use Rattle.encoding.proofs.VarUInts.{uint_written}
use Rattle.encoding.proofs.Heads.{head_type, head-code, typed_length}
use Rattle.writing.specs.Things.{Thing, int_type, significant, float_body, symbol_body, null_byte, bool_byte, written}
use Rattle.writing.specs.Answers.{has_body, judged_int, judged_scalar, rules_of}
use Rattle.writing.specs.Answers as ours
use Rattle.writing.specs.Theorems.{Sound, Bodied, an_int, a_float, a_symbol, a_scalar, a_container, FramedBack}
use Rattle.writing.specs.Back.{body_at, spanned, ScalarsBack, ContainersBack}
use Rattle.writing.specs.Back as back
use Rattle.writing.proofs.Back.{symbol_few, values-back}
use Rattle.writing.proofs.OneByteValues.{nulls-back, bools-back}

-- ---- where a value is read

valued : (limit : ℕ) (s : List ℕ) (start end at : ℕ) (v : Spans) → out_of_range limit ≡ false → start ≤ at → read_value limit s at end ≡ gives v → value_in limit s start end at ≡ gives v
unfolding value_in
valued limit s start end at v g h q = rw (g, le-ltb at start h) q

code_known : (n : ℕ) → eqb (head_code n) 15 ≡ false
unfolding head_code
code_known n = by_test (λ (c : ℕ). eqb c 15 ≡ false) (ltb n 14) (λ e. ne_eqb n 15 (omega (arith, ltb-true n 14 e))) (λ _. refl)

module _ (limit : ℕ) (s : List ℕ) (start end at type n : ℕ) (g : out_of_range limit ≡ false) (h : start ≤ at) (q : read_value limit s at end ≡ gives (typed_spans type at n)) where
  pub read-typed : read_scalar limit s start end at ≡ typed_of s (typed_spans type at n) type
  unfolding read_scalar scalar_of
  read-typed = rw (valued limit s start end at (typed_spans type at n) g h q, head-code type n, code_known n, head_type type n)

  pub step_typed : 10 < type → step_in limit s start end at ≡ gives (record { rules = rules_of type; body = at + head_size n; end = at + head_size n + n })
  unfolding step_in opened is_container
  step_typed l = rw (valued limit s start end at (typed_spans type at n) g h q, head-code type n, code_known n, head_type type n, lt-ltb 10 type l)

-- ---- numbers

pub lead : (m : List ℕ) → 0 < length (significant m) → get_or (significant m) 0 0 ≡ 0 → ⊥
unfolding significant
lead [] = λ h e. absurd (omega arith)
lead (b ∷ bs) = by_test (λ (l : List ℕ). 0 < length l → get_or l 0 0 ≡ 0 → ⊥) (eqb b 0) (λ _. lead bs) (λ q _ e. eqb-false b 0 q e)

significant_worth : (m : List ℕ) → uint_of (significant m) ≡ uint_of m
unfolding significant uint_of of_digits
significant_worth [] = refl
significant_worth (b ∷ bs) =
    by_test (λ (l : List ℕ). of_digits 256 l ≡ of_digits 256 (b ∷ bs)) (eqb b 0)
    (λ e. significant_worth bs ∙ (let z : b ≡ 0 = eqb-true b 0 e in rw z (omega arith)))
    (λ _. refl)

module _ (s : List ℕ) (b : ℕ) (body : List ℕ) (k : b + length body ≤ length s) (same : part s b (b + length body) ≡ body) where
  starts : 0 < length body → get_or s b 0 ≡ get_or body 0 0
  starts h =
      let z : b + 0 ≡ b = omega arith in
      ap (λ (i : ℕ). get_or s i 0) (sym z) ∙ sym (part_at s b (b + length body) 0 (omega arith)) ∙ ap (λ (l : List ℕ). get_or l 0 0) same

  pub first_is : (0 < length body → get_or body 0 0 ≡ 0 → ⊥) → significant_from s b (b + length body) ≡ b
  first_is n =
      significant_one s b (b + length body) (omega arith) k
      (record { low = omega arith; high = omega arith; zeros = λ i x y. absurd (omega arith); here = λ l z. n (omega arith) (sym (starts (omega arith)) ∙ z); worth = refl })

  number_is : length body ≤ 8 → uint_in s b (b + length body) ≡ uint_of body
  number_is h = uint_inside s b (b + length body) (omega arith) k (omega arith) ∙ ap uint_of same

-- ---- each of the values

record Stood (limit : ℕ) (s : List ℕ) (at end type : ℕ) (body : List ℕ) : Type 0 where
  framed : read_value limit s at end ≡ gives (typed_spans type at (length body))
  fits : body_at at (length body) + length body ≤ length s
  bytes : part s (body_at at (length body)) (body_at at (length body) + length body) ≡ body

typed-of : {thing : Thing} {type : ℕ} {body : List ℕ} → Bodied thing type body → length (written thing) ≡ head_size (length body) + length body
typed-of (an_int {negative = n} {magnitude = m}) = typed_length (int_type n) (significant m)
typed-of (a_float {bits = w}) = typed_length 4 (float_body w)
typed-of (a_symbol {id = i}) = typed_length 7 (symbol_body i)
typed-of (a_scalar {type = t} {body = b}) = typed_length t b
typed-of (a_container {type = t} {body = b}) = typed_length t b

stood : (limit deepest : ℕ) {thing : Thing} {type : ℕ} {body : List ℕ} → Bodied thing type body → Sound limit deepest thing → (s : List ℕ) (at end : ℕ) → StandsAt s at end (written thing) → Stood limit s at end type body
stood limit deepest {thing} {type} {body} k h s at end b =
    let f : FramedBack limit s at end type body = values-back limit deepest thing type body k h s at end b in
    record { framed = f.framed; fits = omega (arith, b.fits, b.within, typed-of k); bytes = f.bytes }

pub size_is : (at n : ℕ) → body_at at n + n - body_at at n ≡ n
size_is at n = omega arith

record Body (type : ℕ) : Type 0 where
  low : 5 ≤ type
  high : type ≤ 10
  other : type ≡ 7 → ⊥

body_type : (type : ℕ) → not (has_body type) ≡ false → Body type
unfolding has_body
body_type type =
    by_test (λ (b : Bool). not b ≡ false → Body type) (ltb type 5) (λ _ h. absurd (true≢false h)) (λ a.
    by_test (λ (b : Bool). not b ≡ false → Body type) (eqb type 7) (λ _ h. absurd (true≢false h)) (λ c h.
    record { low = ltb-false type 5 a; high = omega (arith, ltb-true type 11 (not-false (ltb type 11) h)); other = eqb-false type 7 c }))

-- a null's byte
pub null_code : (type : ℕ) → null_byte type % 16 ≡ 15
unfolding null_byte
null_code type = omega arith

null_type : (type : ℕ) → null_byte type / 16 ≡ pick (eqb type 3) 2 type
unfolding null_byte
null_type type = omega arith

twice : (type : ℕ) → pick (eqb (pick (eqb type 3) 2 type) 3) 2 (pick (eqb type 3) 2 type) ≡ pick (eqb type 3) 2 type
twice type = by_case (eqb type 3) (λ e. rw e) (λ e. rw (e, e))

-- a magnitude that is not refused with 34
some_magnitude : (m : List ℕ) → judged_int true m ≡ gives done → 0 < length (significant m)
unfolding judged_int
some_magnitude m h = omega (arith, eqb-false (length (significant m)) 0 (refuse_gives (eqb (length (significant m)) 0) 34 0 h).0)

container_read : (s : List ℕ) (v : Spans) (type : ℕ) → 10 < type → typed_of s v type ≡ gives read.container
unfolding typed_of
container_read s v type h =
    rw (ne_eqb type 1 (omega arith), ne_eqb type 2 (omega arith), ne_eqb type 3 (omega arith), ne_eqb type 4 (omega arith), ne_eqb type 5 (omega arith), ne_eqb type 6 (omega arith), ne_eqb type 7 (omega arith), ne_eqb type 8 (omega arith), ne_eqb type 9 (omega arith), ne_eqb type 10 (omega arith))

-- the text of a string that is not refused with 36
text_good : (type : ℕ) (body : List ℕ) → type ≡ 8 → judged_scalar type body ≡ gives done → utf8 body 0 (length body) ≡ true
unfolding judged_scalar read_content scalar_of typed_of string_of
text_good type body e h =
    let k : read_content body (bare_spans (8 * 16) 0 0 (length body)) ≡ gives done = (refuse_gives (short_timestamp 8 0 (length body)) 31 0 (rw e at h)).1 in
    let r = then_gives (scalar_of body (bare_spans (8 * 16) 0 0 (length body))) (read_body body 0) k in
    not-false (utf8 body 0 (length body)) (refuse_gives (not (utf8 body 0 (length body))) 36 0 r.1).0

text_moved : (s : List ℕ) (at : ℕ) (body : List ℕ) → body_at at (length body) + length body ≤ length s → part s (body_at at (length body)) (body_at at (length body) + length body) ≡ body → utf8 body 0 (length body) ≡ true → utf8 s (body_at at (length body)) (body_at at (length body) + length body) ≡ true
text_moved s at body k same h =
    let b : ℕ = body_at at (length body) in
    let z : b + 0 ≡ b = omega arith in
    subst (λ (x : ℕ). utf8 s x (b + length body) ≡ true) z
    (utf8_moved body s b (length body) (omega arith) k 0 (omega arith) (λ i p q.
    ap (λ (l : List ℕ). get_or l i 0) (sym same) ∙ part_at s b (b + length body) i (omega arith)) ∙ h)

-- by its type code
spanned_is : (s : List ℕ) (at type : ℕ) (body : List ℕ) → not (has_body type) ≡ false → (type ≡ 8 → utf8 s (body_at at (length body)) (body_at at (length body) + length body) ≡ true) → typed_of s (typed_spans type at (length body)) type ≡ gives (spanned type (body_at at (length body)) (body_at at (length body) + length body))
unfolding typed_of string_of
spanned_is s at type body i text =
    let t : Body type = body_type type i in
    rw (ne_eqb type 1 (omega (arith, t.low)), ne_eqb type 2 (omega (arith, t.low)), ne_eqb type 3 (omega (arith, t.low)), ne_eqb type 4 (omega (arith, t.low)), ne_eqb type 7 t.other)
    (by_case (eqb type 5) (λ e. rw e) (λ a. rw a
    (by_case (eqb type 6) (λ e. rw e) (λ b. rw b
    (by_case (eqb type 8) (λ e. rw (e, text (eqb-true type 8 e))) (λ c. rw c
    (by_case (eqb type 9) (λ e. rw e) (λ d. rw (d, eq-eqb type 10 (omega (arith, t.low, t.high, t.other, eqb-false type 5 a, eqb-false type 6 b, eqb-false type 8 c, eqb-false type 9 d)))))))))))

-- a float's body
eight_body : (bits : ℕ) → (bits ≡ 0 → ⊥) → float_body bits ≡ big_endian 8 bits
unfolding float_body
eight_body bits h = rw (ne_eqb bits 0 h)

no_bits : (s : List ℕ) (at bits : ℕ) → bits ≡ 0 → typed_of s (typed_spans 4 at (length (float_body bits))) 4 ≡ gives (read.float bits)
unfolding typed_of float_of float_body
no_bits s at bits e = let z : at + head_size 0 + 0 - (at + head_size 0) ≡ 0 = omega arith in rw (e, z)

eight_bits : (s : List ℕ) (at bits : ℕ) → (bits ≡ 0 → ⊥) → uint_in s (body_at at (length (float_body bits))) (body_at at (length (float_body bits)) + length (float_body bits)) ≡ bits → typed_of s (typed_spans 4 at (length (float_body bits))) 4 ≡ gives (read.float bits)
unfolding typed_of float_of
eight_bits s at bits h e =
    let n : ℕ = length (float_body bits) in
    let l : n ≡ 8 = ap length (eight_body bits h) ∙ (uint_written 8 bits).size in
    rw (size_is at n, ne_eqb n 0 (omega arith), ne_eqb n 4 (omega arith), e)

symbol_worth : (id : ℕ) → id < 2 ^ 64 → uint_of (symbol_body id) ≡ id
unfolding symbol_body
symbol_worth id h = significant_worth (big_endian 8 id) ∙ (uint_written 8 id).worth (omega arith)

container_type : (type : ℕ) → not (ours.is_container type) ≡ false → 10 < type
unfolding ours.is_container
container_type type = by_test (λ (b : Bool). not b ≡ false → 10 < type) (ltb type 11) (λ _ h. absurd (true≢false h)) (λ e _. omega (arith, ltb-false type 11 e))

module _ (limit : ℕ) (s : List ℕ) (start end at : ℕ) (g : out_of_range limit ≡ false) (h : start ≤ at) where
  positive_back : (m : List ℕ) → Stood limit s at end 2 (significant m) → read_scalar limit s start end at ≡ gives (read.int false (body_at at (length (significant m))) (body_at at (length (significant m)) + length (significant m)))
  unfolding typed_of positive_of
  positive_back m t =
      read-typed limit s start end at 2 (length (significant m)) g h t.framed
      ∙ rw (first_is s (body_at at (length (significant m))) (significant m) t.fits t.bytes (lead m))

  negative_back : (m : List ℕ) → 0 < length (significant m) → Stood limit s at end 3 (significant m) → read_scalar limit s start end at ≡ gives (read.int true (body_at at (length (significant m))) (body_at at (length (significant m)) + length (significant m)))
  unfolding typed_of negative_of
  negative_back m p t =
      let b : ℕ = body_at at (length (significant m)) in
      read-typed limit s start end at 3 (length (significant m)) g h t.framed
      ∙ rw (first_is s b (significant m) t.fits t.bytes (lead m), ne_eqb b (b + length (significant m)) (omega arith))

  float_back : (bits : ℕ) → bits < 2 ^ 64 → Stood limit s at end 4 (float_body bits) → read_scalar limit s start end at ≡ gives (read.float bits)
  float_back bits l t =
      read-typed limit s start end at 4 (length (float_body bits)) g h t.framed
      ∙ by_case (eqb bits 0) (λ e. none e) (λ e. eight e)
    where
      b : ℕ
      b = body_at at (length (float_body bits))

      none : eqb bits 0 ≡ true → typed_of s (typed_spans 4 at (length (float_body bits))) 4 ≡ gives (read.float bits)
      none e = no_bits s at bits (eqb-true bits 0 e)

      eight : eqb bits 0 ≡ false → typed_of s (typed_spans 4 at (length (float_body bits))) 4 ≡ gives (read.float bits)
      eight e =
          eight_bits s at bits (eqb-false bits 0 e) (number_is s b (float_body bits) t.fits t.bytes (omega (arith, ap length (eight_body bits (eqb-false bits 0 e)), (uint_written 8 bits).size)) ∙ ap uint_of (eight_body bits (eqb-false bits 0 e)) ∙ (uint_written 8 bits).worth (omega arith))

  symbol_back : (id : ℕ) → id < 2 ^ 64 → Stood limit s at end 7 (symbol_body id) → read_scalar limit s start end at ≡ gives (read.symbol id)
  unfolding typed_of symbol_of
  symbol_back id l t =
      let n : ℕ = length (symbol_body id) in
      read-typed limit s start end at 7 n g h t.framed
      ∙ rw (size_is at n, le-ltb 8 n (symbol_few id))
      (ap (λ (x : ℕ). gives (read.symbol x)) (number_is s (body_at at n) (symbol_body id) t.fits t.bytes (symbol_few id) ∙ symbol_worth id l))

pub containers-back : ContainersBack
containers-back limit deepest type body h g s start at end l b =
    let t : Stood limit s at end type body = stood limit deepest a_container h s at end b in
    step_typed limit s start end at type (length body) g l t.framed (container_type type h.inside)

-- ---- those of one byte

module _ (limit : ℕ) (s : List ℕ) (start end at : ℕ) (g : out_of_range limit ≡ false) (h : start ≤ at) where
  null_read : (type : ℕ) → type ≤ 13 → read_value limit s at end ≡ gives (bare_spans (null_byte type) at (at + 1) (at + 1)) → read_scalar limit s start end at ≡ gives (read.null (pick (eqb type 3) 2 type))
  unfolding read_scalar scalar_of
  null_read type l q =
      rw (valued limit s start end at (bare_spans (null_byte type) at (at + 1) (at + 1)) g h q, null_code type, null_type type)
      (ap (λ (x : ℕ). gives (read.null x)) (twice type))

  bool_read : (value : Bool) → read_value limit s at end ≡ gives (bare_spans (bool_byte value) at (at + 1) (at + 1)) → read_scalar limit s start end at ≡ gives (read.bool value)
  unfolding read_scalar scalar_of typed_of bool_of bool_byte
  bool_read true q = rw (valued limit s start end at (bare_spans (bool_byte true) at (at + 1) (at + 1)) g h q)
  bool_read false q = rw (valued limit s start end at (bare_spans (bool_byte false) at (at + 1) (at + 1)) g h q)

  -- ---- those that are given as bodies
  body_back : (type : ℕ) (body : List ℕ) → not (has_body type) ≡ false → judged_scalar type body ≡ gives done → Stood limit s at end type body → read_scalar limit s start end at ≡ gives (spanned type (body_at at (length body)) (body_at at (length body) + length body))
  body_back type body i j t =
      read-typed limit s start end at type (length body) g h t.framed ∙ spanned_is s at type body i (λ e. text_moved s at body t.fits t.bytes (text_good type body e j))

pub scalars-back : ScalarsBack
scalars-back limit deepest at thing x (back.a_null {type = t}) h g s start end l b =
    let m : t ≤ 13 = ltb-false 13 t h.inside in null_read limit s start end at g l t m (nulls-back limit t m s at end b)
scalars-back limit deepest at thing x (back.a_bool {value = v}) h g s start end l b = bool_read limit s start end at g l v (bools-back limit v s at end b)
scalars-back limit deepest at thing x (back.an_int {negative = false} {magnitude = m}) h g s start end l b = positive_back limit s start end at g l m (stood limit deepest an_int h s at end b)
scalars-back limit deepest at thing x (back.an_int {negative = true} {magnitude = m}) h g s start end l b = negative_back limit s start end at g l m (some_magnitude m h.unrefused) (stood limit deepest an_int h s at end b)
scalars-back limit deepest at thing x (back.a_float {bits = w} k) h g s start end l b = float_back limit s start end at g l w k (stood limit deepest a_float h s at end b)
scalars-back limit deepest at thing x (back.a_symbol {id = i} k) h g s start end l b = symbol_back limit s start end at g l i k (stood limit deepest a_symbol h s at end b)
scalars-back limit deepest at thing x (back.a_body {type = t} {body = y}) h g s start end l b = body_back limit s start end at g l t y h.inside h.unrefused (stood limit deepest a_scalar h s at end b)
scalars-back limit deepest at thing x (back.a_container {type = t} {body = y}) h g s start end l b =
    let k : Stood limit s at end t y = stood limit deepest a_container h s at end b in
    read-typed limit s start end at t (length y) g l k.framed ∙ container_read s (typed_spans t at (length y)) t (container_type t h.inside)
