-- The theorems of specs/Utf8.antt: a scalar value's bytes are taken one after the other, and what is taken has the digits of a scalar value.
-- Assumes nothing.
use Prim.Native.Nat.{ℕ, zero, suc, ◌+◌, ◌-◌, ◌*◌, ◌/◌, ◌%◌, ◌≤◌, ◌<◌}
use native.Mathlib.Omega.{arith}
use native.Mathlib.Nat.{le_trans}
use mathlib.Core.Path.{◌≡◌, refl, ◌∙◌, sym, ap, subst}
use mathlib.Core.Logic.{inl, inr, ⊎_elim}
use mathlib.Core.Bool.{true, false, true≢false}
use mathlib.Core.List.{List, [], ◌∷◌, ◌++◌}
use lib.ListN.{length, replicate}
use lib.Dec.{leb, ltb, eqb, eqb-suc-zero}
use borrow.Author.Tests.{le-leb, lt-leb, lt-ltb, le-ltb, ltb-true, ltb-false, leb-true, eqb-true}
use Rattle.numbers.specs.Outcome.{pick}
use Rattle.numbers.proofs.Outcomes.{by_test}
use Rattle.bodies.specs.Utf8.{Range, range, in_range, tail, goes_on, well_formed, ScalarValue, ScalarValues, no_more, also, encode, encoded, EncodedAccepted, AcceptedEncoded}
use Rattle.bodies.specs.Private.Sequence.{tails_of, low_of, high_of, wanted}
use Rattle.bodies.proofs.Rows.{both_first, both_second, by_less, goes_ascii, goes_lead, in-range, goes_in}

-- the encoding by its length
pub encode_one : (c : ℕ) → c < 128 → encode c ≡ c ∷ []
unfolding encode
encode_one c h = rw (le-leb c 0x7F (omega arith))

pub encode_two : (c : ℕ) → 0x80 ≤ c → c ≤ 0x7FF → encode c ≡ (0xC0 + c / 0x40) ∷ (0x80 + c % 0x40) ∷ []
unfolding encode
encode_two c h k = rw (lt-leb c 0x7F (omega arith), le-leb c 0x7FF k)

pub encode_three : (c : ℕ) → 0x800 ≤ c → c ≤ 0xFFFF → encode c ≡ (0xE0 + c / 0x1000) ∷ (0x80 + c / 0x40 % 0x40) ∷ (0x80 + c % 0x40) ∷ []
unfolding encode
encode_three c h k = rw (lt-leb c 0x7F (omega arith), lt-leb c 0x7FF (omega arith), le-leb c 0xFFFF k)

pub encode_four : (c : ℕ) → 0x10000 ≤ c → encode c ≡ (0xF0 + c / 0x40000) ∷ (0x80 + c / 0x1000 % 0x40) ∷ (0x80 + c / 0x40 % 0x40) ∷ (0x80 + c % 0x40) ∷ []
unfolding encode
encode_four c h = rw (lt-leb c 0x7F (omega arith), lt-leb c 0x7FF (omega arith), lt-leb c 0xFFFF (omega arith))

-- how many bytes a lead byte wants says where it lies
data Lead (b : ℕ) : ℕ → Type 0 where
  no_lead : Lead b 0
  two : 0xC2 ≤ b → b < 0xE0 → Lead b 1
  three : 0xE0 ≤ b → b < 0xF0 → Lead b 2
  four : 0xF0 ≤ b → b < 0xF5 → Lead b 3

lead_is : (b : ℕ) → Lead b (tails_of b)
unfolding tails_of
lead_is b =
    by_test (Lead b) (ltb b 0xC2) (λ _. no_lead) (λ c2.
    by_test (Lead b) (ltb b 0xE0) (λ e0. two (ltb-false b 0xC2 c2) (ltb-true b 0xE0 e0)) (λ e0.
    by_test (Lead b) (ltb b 0xF0) (λ f0. three (ltb-false b 0xE0 e0) (ltb-true b 0xF0 f0)) (λ f0.
    by_test (Lead b) (ltb b 0xF5) (λ f5. four (ltb-false b 0xF0 f0) (ltb-true b 0xF5 f5)) (λ _. no_lead))))

tails_two : (b : ℕ) → 0xC2 ≤ b → b < 0xE0 → tails_of b ≡ 1
unfolding tails_of
tails_two b h k = rw (le-ltb b 0xC2 h, lt-ltb b 0xE0 k)

tails_three : (b : ℕ) → 0xE0 ≤ b → b < 0xF0 → tails_of b ≡ 2
unfolding tails_of
tails_three b h k = rw (le-ltb b 0xC2 (omega arith), le-ltb b 0xE0 h, lt-ltb b 0xF0 k)

tails_four : (b : ℕ) → 0xF0 ≤ b → b < 0xF5 → tails_of b ≡ 3
unfolding tails_of
tails_four b h k = rw (le-ltb b 0xC2 (omega arith), le-ltb b 0xE0 (omega arith), le-ltb b 0xF0 h, lt-ltb b 0xF5 k)

-- x may stand behind the lead byte b
record Second (b x : ℕ) : Type 0 where
  low : 0x80 ≤ x
  high : x ≤ 0xBF
  after_e0 : b ≡ 0xE0 → 0xA0 ≤ x
  after_f0 : b ≡ 0xF0 → 0x90 ≤ x
  after_ed : b ≡ 0xED → x ≤ 0x9F
  after_f4 : b ≡ 0xF4 → x ≤ 0x8F

second_in : (b x : ℕ) → Second b x → in_range (range (low_of b) (high_of b)) x ≡ true
unfolding low_of high_of
second_in b x r =
    in-range (low_of b) (high_of b) x
    (by_test (λ n. n ≤ x) (eqb b 0xE0) (λ e. omega (arith, r.after_e0 (eqb-true b 0xE0 e))) (λ _.
    by_test (λ n. n ≤ x) (eqb b 0xF0) (λ e. omega (arith, r.after_f0 (eqb-true b 0xF0 e))) (λ _. omega (arith, r.low))))
    (by_test (λ n. x ≤ n) (eqb b 0xED) (λ e. omega (arith, r.after_ed (eqb-true b 0xED e))) (λ _.
    by_test (λ n. x ≤ n) (eqb b 0xF4) (λ e. omega (arith, r.after_f4 (eqb-true b 0xF4 e))) (λ _. omega (arith, r.high))))

-- ---- what is encoded is accepted

lead_taken : (b n : ℕ) (bs : List ℕ) → 128 ≤ b → tails_of b ≡ suc n → goes_on (b ∷ bs) [] ≡ goes_on bs (range (low_of b) (high_of b) ∷ replicate n tail)
lead_taken b n bs h e = goes_lead b bs h ∙ rw (e, eqb-suc-zero n)

second_taken : (b x n : ℕ) (bs : List ℕ) → 128 ≤ b → tails_of b ≡ suc n → Second b x → goes_on (b ∷ x ∷ bs) [] ≡ goes_on bs (replicate n tail)
second_taken b x n bs h e r =
    lead_taken b n (x ∷ bs) h e ∙ goes_in x bs (range (low_of b) (high_of b)) (replicate n tail) (second_in b x r)

tail_taken : (x n : ℕ) (bs : List ℕ) → 0x80 ≤ x → x ≤ 0xBF → goes_on (x ∷ bs) (replicate (suc n) tail) ≡ goes_on bs (replicate n tail)
tail_taken x n bs h k = goes_in x bs tail (replicate n tail) (in-range 0x80 0xBF x h k)

encode_taken : (c : ℕ) (bs : List ℕ) → ScalarValue c → goes_on (encode c ++ bs) [] ≡ goes_on bs []
encode_taken c bs sc =
    by_less c 0x80 (λ h. rw (encode_one c h) (goes_ascii c bs h)) (λ h.
    by_less c 0x800 (λ k. rw (encode_two c h (omega arith)) (taken_two h k)) (λ k.
    by_less c 0x10000 (λ l. rw (encode_three c k (omega arith)) (taken_three k l)) (λ l. rw (encode_four c l) (taken_four l))))
  where
    scalar_low : 0xD800 ≤ c → 0xE000 ≤ c
    scalar_low h = ⊎_elim (λ (a : c ≤ 0xD7FF). absurd (omega arith)) (λ (a : (0xE000 ≤ c) × (c ≤ 0x10FFFF)). a.0) sc

    scalar_high : c ≤ 0x10FFFF
    scalar_high = ⊎_elim (λ (a : c ≤ 0xD7FF). omega arith) (λ (a : (0xE000 ≤ c) × (c ≤ 0x10FFFF)). a.1) sc

    taken_two : 0x80 ≤ c → c < 0x800 → goes_on ((0xC0 + c / 0x40) ∷ (0x80 + c % 0x40) ∷ bs) [] ≡ goes_on bs []
    taken_two h k =
        second_taken (0xC0 + c / 0x40) (0x80 + c % 0x40) 0 bs (omega arith) (tails_two (0xC0 + c / 0x40) (omega arith) (omega arith))
        (record {
          low = omega arith;
          high = omega arith;
          after_e0 = λ e. absurd (omega arith);
          after_f0 = λ e. absurd (omega arith);
          after_ed = λ e. absurd (omega arith);
          after_f4 = λ e. absurd (omega arith);
        })

    taken_three : 0x800 ≤ c → c < 0x10000 → goes_on ((0xE0 + c / 0x1000) ∷ (0x80 + c / 0x40 % 0x40) ∷ (0x80 + c % 0x40) ∷ bs) [] ≡ goes_on bs []
    taken_three h k =
        second_taken (0xE0 + c / 0x1000) (0x80 + c / 0x40 % 0x40) 1 ((0x80 + c % 0x40) ∷ bs) (omega arith) (tails_three (0xE0 + c / 0x1000) (omega arith) (omega arith))
        (record {
          low = omega arith;
          high = omega arith;
          after_e0 = λ e. omega arith;
          after_f0 = λ e. absurd (omega arith);
          after_ed = λ e. by_less c 0xD800 (λ l. omega arith) (λ l. absurd (omega (arith, scalar_low l)));
          after_f4 = λ e. absurd (omega arith);
        })
        ∙ tail_taken (0x80 + c % 0x40) 0 bs (omega arith) (omega arith)

    taken_four : 0x10000 ≤ c → goes_on ((0xF0 + c / 0x40000) ∷ (0x80 + c / 0x1000 % 0x40) ∷ (0x80 + c / 0x40 % 0x40) ∷ (0x80 + c % 0x40) ∷ bs) [] ≡ goes_on bs []
    taken_four h =
        second_taken (0xF0 + c / 0x40000) (0x80 + c / 0x1000 % 0x40) 2 ((0x80 + c / 0x40 % 0x40) ∷ (0x80 + c % 0x40) ∷ bs) (omega arith) (tails_four (0xF0 + c / 0x40000) (omega arith) (omega (arith, scalar_high)))
        (record {
          low = omega arith;
          high = omega arith;
          after_e0 = λ e. absurd (omega arith);
          after_f0 = λ e. omega arith;
          after_ed = λ e. absurd (omega arith);
          after_f4 = λ e. omega (arith, scalar_high);
        })
        ∙ tail_taken (0x80 + c / 0x40 % 0x40) 1 ((0x80 + c % 0x40) ∷ bs) (omega arith) (omega arith)
        ∙ tail_taken (0x80 + c % 0x40) 0 bs (omega arith) (omega arith)

pub encoded_accepted : EncodedAccepted
unfolding encoded goes_on
encoded_accepted [] no_more = refl
encoded_accepted (c ∷ cs) (also h r) = encode_taken c (encoded cs) h ∙ encoded_accepted cs r

-- ---- what is accepted is encoded

-- a scalar value's bytes, and what follows them
record Begun (n : ℕ) (bs : List ℕ) : Type 0 where
  value : ℕ
  rest : List ℕ
  scalar : ScalarValue value
  is : encode value ++ rest ≡ bs
  shorter : length rest ≤ n
  goes : well_formed rest ≡ true

-- bytes that begin in a range
record Taken (n : ℕ) (r : Range) (rs : List Range) (bs : List ℕ) : Type 0 where
  byte : ℕ
  rest : List ℕ
  is : bs ≡ byte ∷ rest
  within : in_range r byte ≡ true
  shorter : length rest ≤ n
  goes : goes_on rest rs ≡ true

take_one : (n : ℕ) (bs : List ℕ) (r : Range) (rs : List Range) → length bs ≤ n → goes_on bs (r ∷ rs) ≡ true → Taken n r rs bs
unfolding goes_on
take_one n [] r rs l h = absurd (true≢false (sym h))
take_one n (b ∷ bs) r rs l h =
    record {
      byte = b;
      rest = bs;
      is = refl;
      within = both_first (in_range r b) (goes_on bs rs) h;
      shorter = omega arith;
      goes = both_second (in_range r b) (goes_on bs rs) h;
    }

range_low : (low high x : ℕ) → in_range (range low high) x ≡ true → low ≤ x
range_low low high x h = leb-true low x (both_second (leb x high) (leb low x) h)

range_high : (low high x : ℕ) → in_range (range low high) x ≡ true → x ≤ high
range_high low high x h = leb-true x high (both_first (leb x high) (leb low x) h)

tail_low : {n : ℕ} {rs : List Range} {bs : List ℕ} (x : Taken n tail rs bs) → 0x80 ≤ x.byte
tail_low x = range_low 0x80 0xBF x.byte x.within

tail_high : {n : ℕ} {rs : List Range} {bs : List ℕ} (x : Taken n tail rs bs) → x.byte ≤ 0xBF
tail_high x = range_high 0x80 0xBF x.byte x.within

low_least : (b : ℕ) → 0x80 ≤ low_of b
unfolding low_of
low_least b =
    by_test (λ n. 0x80 ≤ n) (eqb b 0xE0) (λ _. omega arith) (λ _. by_test (λ n. 0x80 ≤ n) (eqb b 0xF0) (λ _. omega arith) (λ _. omega arith))

high_most : (b : ℕ) → high_of b ≤ 0xBF
unfolding high_of
high_most b =
    by_test (λ n. n ≤ 0xBF) (eqb b 0xED) (λ _. omega arith) (λ _. by_test (λ n. n ≤ 0xBF) (eqb b 0xF4) (λ _. omega arith) (λ _. omega arith))

second_of : (b x : ℕ) → in_range (range (low_of b) (high_of b)) x ≡ true → Second b x
unfolding low_of high_of
second_of b x h =
    let l : low_of b ≤ x = range_low (low_of b) (high_of b) x h in
    let m : x ≤ high_of b = range_high (low_of b) (high_of b) x h in
    record {
      low = le_trans (low_least b) l;
      high = le_trans m (high_most b);
      after_e0 = λ e. omega (arith, subst (λ n. low_of n ≤ x) e l);
      after_f0 = λ e. omega (arith, subst (λ n. low_of n ≤ x) e l);
      after_ed = λ e. omega (arith, subst (λ n. x ≤ high_of n) e m);
      after_f4 = λ e. omega (arith, subst (λ n. x ≤ high_of n) e m);
    }

-- the value that bytes stand for, which is encoded as they are
two_value : ℕ → ℕ → ℕ
two_value b x = (b - 0xC0) * 0x40 + (x - 0x80)

two_is : (b x : ℕ) → 0xC2 ≤ b → b < 0xE0 → Second b x → encode (two_value b x) ≡ b ∷ x ∷ []
unfolding two_value
two_is b x h k s =
    let l : 0x80 ≤ x = s.low in
    let m : x ≤ 0xBF = s.high in
    let p : 0xC0 + two_value b x / 0x40 ≡ b = omega arith in
    let q : 0x80 + two_value b x % 0x40 ≡ x = omega arith in
    encode_two (two_value b x) (omega arith) (omega arith) ∙ rw (p, q)

two_scalar : (b x : ℕ) → 0xC2 ≤ b → b < 0xE0 → Second b x → ScalarValue (two_value b x)
unfolding two_value
two_scalar b x h k s = inl (omega (arith, s.high))

three_value : ℕ → ℕ → ℕ → ℕ
three_value b x y = (b - 0xE0) * 0x1000 + ((x - 0x80) * 0x40 + (y - 0x80))

module _ (b x y : ℕ) (h : 0xE0 ≤ b) (k : b < 0xF0) (s : Second b x) (yl : 0x80 ≤ y) (ym : y ≤ 0xBF) where
  three_low : 0x800 ≤ three_value b x y
  unfolding three_value
  three_low =
      by_less b 0xE1 (λ l. let e : 0xA0 ≤ x = s.after_e0 (omega arith) in omega arith) (λ l. omega arith)

  three_is : encode (three_value b x y) ≡ b ∷ x ∷ y ∷ []
  unfolding three_value
  three_is =
      let l : 0x80 ≤ x = s.low in
      let m : x ≤ 0xBF = s.high in
      let p : 0xE0 + three_value b x y / 0x1000 ≡ b = omega arith in
      let d : three_value b x y / 0x40 ≡ (b - 0xE0) * 0x40 + (x - 0x80) = omega arith in
      let q : 0x80 + three_value b x y / 0x40 % 0x40 ≡ x = rw d (omega arith) in
      let r : 0x80 + three_value b x y % 0x40 ≡ y = omega arith in
      encode_three (three_value b x y) three_low (omega arith) ∙ rw (p, q, r)

  three_scalar : ScalarValue (three_value b x y)
  unfolding three_value
  three_scalar =
      let m : x ≤ 0xBF = s.high in
      by_less b 0xED (λ l. inl (omega arith)) (λ l.
      by_less b 0xEE (λ g. let e : x ≤ 0x9F = s.after_ed (omega arith) in inl (omega arith)) (λ g. inr (omega arith, omega arith)))

four_value : ℕ → ℕ → ℕ → ℕ → ℕ
four_value b x y z = (b - 0xF0) * 0x40000 + ((x - 0x80) * 0x1000 + ((y - 0x80) * 0x40 + (z - 0x80)))

module _ (b x y z : ℕ) (h : 0xF0 ≤ b) (k : b < 0xF5) (s : Second b x) (yl : 0x80 ≤ y) (ym : y ≤ 0xBF) (zl : 0x80 ≤ z) (zm : z ≤ 0xBF) where
  four_low : 0x10000 ≤ four_value b x y z
  unfolding four_value
  four_low =
      by_less b 0xF1 (λ l. let e : 0x90 ≤ x = s.after_f0 (omega arith) in omega arith) (λ l. omega arith)

  four_high : four_value b x y z ≤ 0x10FFFF
  unfolding four_value
  four_high =
      let m : x ≤ 0xBF = s.high in
      by_less b 0xF4 (λ l. omega arith) (λ l. let e : x ≤ 0x8F = s.after_f4 (omega arith) in omega arith)

  four_is : encode (four_value b x y z) ≡ b ∷ x ∷ y ∷ z ∷ []
  unfolding four_value
  four_is =
      let l : 0x80 ≤ x = s.low in
      let m : x ≤ 0xBF = s.high in
      let p : 0xF0 + four_value b x y z / 0x40000 ≡ b = omega arith in
      let d : four_value b x y z / 0x1000 ≡ (b - 0xF0) * 0x40 + (x - 0x80) = omega arith in
      let q : 0x80 + four_value b x y z / 0x1000 % 0x40 ≡ x = rw d (omega arith) in
      let e : four_value b x y z / 0x40 ≡ ((b - 0xF0) * 0x40 + (x - 0x80)) * 0x40 + (y - 0x80) = omega arith in
      let r : 0x80 + four_value b x y z / 0x40 % 0x40 ≡ y = rw e (omega arith) in
      let t : 0x80 + four_value b x y z % 0x40 ≡ z = omega arith in
      encode_four (four_value b x y z) four_low ∙ rw (p, q, r, t)

joined : {l m : List ℕ} (rest : List ℕ) → l ≡ m → l ++ rest ≡ m ++ rest
joined rest e = ap (λ (k : List ℕ). k ++ rest) e

-- the first scalar value of accepted bytes
begun : (n b t : ℕ) (bs : List ℕ) → length bs ≤ n → Lead b t → pick (eqb t 0) false (goes_on bs (wanted t (low_of b) (high_of b))) ≡ true → Begun n (b ∷ bs)
begun n b _ bs l no_lead h = absurd (true≢false (sym h))
begun n b _ bs l (two lo hi) h =
    let x : Taken n (range (low_of b) (high_of b)) [] bs = take_one n bs (range (low_of b) (high_of b)) [] l h in
    let s : Second b x.byte = second_of b x.byte x.within in
    record {
      value = two_value b x.byte;
      rest = x.rest;
      scalar = two_scalar b x.byte lo hi s;
      is = joined x.rest (two_is b x.byte lo hi s) ∙ ap (λ (l : List ℕ). b ∷ l) (sym x.is);
      shorter = x.shorter;
      goes = x.goes;
    }
begun n b _ bs l (three lo hi) h =
    let x : Taken n (range (low_of b) (high_of b)) (tail ∷ []) bs = take_one n bs (range (low_of b) (high_of b)) (tail ∷ []) l h in
    let y : Taken n tail [] x.rest = take_one n x.rest tail [] x.shorter x.goes in
    let s : Second b x.byte = second_of b x.byte x.within in
    record {
      value = three_value b x.byte y.byte;
      rest = y.rest;
      scalar = three_scalar b x.byte y.byte lo hi s (tail_low y) (tail_high y);
      is =
          joined y.rest (three_is b x.byte y.byte lo hi s (tail_low y) (tail_high y))
          ∙ ap (λ (l : List ℕ). b ∷ l) (ap (λ (l : List ℕ). x.byte ∷ l) (sym y.is) ∙ sym x.is);
      shorter = y.shorter;
      goes = y.goes;
    }
begun n b _ bs l (four lo hi) h =
    let x : Taken n (range (low_of b) (high_of b)) (tail ∷ tail ∷ []) bs = take_one n bs (range (low_of b) (high_of b)) (tail ∷ tail ∷ []) l h in
    let y : Taken n tail (tail ∷ []) x.rest = take_one n x.rest tail (tail ∷ []) x.shorter x.goes in
    let z : Taken n tail [] y.rest = take_one n y.rest tail [] y.shorter y.goes in
    let s : Second b x.byte = second_of b x.byte x.within in
    let v : 0x10000 ≤ four_value b x.byte y.byte z.byte = four_low b x.byte y.byte z.byte lo hi s (tail_low y) (tail_high y) (tail_low z) (tail_high z) in
    record {
      value = four_value b x.byte y.byte z.byte;
      rest = z.rest;
      scalar = inr (omega arith, four_high b x.byte y.byte z.byte lo hi s (tail_low y) (tail_high y) (tail_low z) (tail_high z));
      is =
          joined z.rest (four_is b x.byte y.byte z.byte lo hi s (tail_low y) (tail_high y) (tail_low z) (tail_high z))
          ∙ ap (λ (l : List ℕ). b ∷ l) (ap (λ (l : List ℕ). x.byte ∷ l) (ap (λ (l : List ℕ). y.byte ∷ l) (sym z.is) ∙ sym y.is) ∙ sym x.is);
      shorter = z.shorter;
      goes = z.goes;
    }

begins : (n b : ℕ) (bs : List ℕ) → length bs ≤ n → well_formed (b ∷ bs) ≡ true → Begun n (b ∷ bs)
begins n b bs l h =
    by_less b 0x80
    (λ k.
    record {
      value = b;
      rest = bs;
      scalar = inl (omega arith);
      is = rw (encode_one b k);
      shorter = l;
      goes = sym (goes_ascii b bs k) ∙ h;
    })
    (λ k. begun n b (tails_of b) bs l (lead_is b) (sym (goes_lead b bs k) ∙ h))

decoded : (n : ℕ) (bs : List ℕ) → length bs ≤ n → well_formed bs ≡ true → (cs : List ℕ) × ScalarValues cs × (encoded cs ≡ bs)
unfolding encoded
decoded zero [] l h = ([], no_more, refl)
decoded zero (b ∷ bs) l h = absurd (omega arith)
decoded (suc n) [] l h = ([], no_more, refl)
decoded (suc n) (b ∷ bs) l h =
    let g : Begun n (b ∷ bs) = begins n b bs (omega arith) h in
    let r = decoded n g.rest g.shorter g.goes in
    (g.value ∷ r.0, also g.scalar r.1, ap (λ (l : List ℕ). encode g.value ++ l) r.2 ∙ g.is)

pub accepted_encoded : AcceptedEncoded
accepted_encoded bs h = decoded (length bs) bs (omega arith) h
