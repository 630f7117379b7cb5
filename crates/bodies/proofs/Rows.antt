-- What a lead byte wants, by three numbers: tested against the table's rows at each byte by one computation.
-- Assumes nothing.
use Prim.Native.Nat.{ℕ, zero, suc, ◌-◌, ◌≤◌, ◌<◌}
use native.Mathlib.Omega.{arith}
use native.Mathlib.Nat.{eq-or-lt_of_le, le_of_suc-le-suc}
use mathlib.Core.Path.{◌≡◌, refl, sym, ap, ap₂}
use mathlib.Core.Logic.{⊎_elim}
use mathlib.Core.Bool.{Bool, true, false, true≢false}
use mathlib.Core.Option.{Option, none, some}
use mathlib.Core.List.{List, [], ◌∷◌}
use lib.ListN.{length, take, drop}
use lib.Dec.{ltb, eqb}
use borrow.Author.Tests.{le-leb, lt-leb, le-ltb, ltb-false, ltb-true, eqb-true}
use Rattle.numbers.specs.Outcome.{pick, outside_of}
use Rattle.numbers.specs.Bytes.{Same}
use Rattle.numbers.proofs.Outcomes.{by_test, pick_same, inside_order, inside_end}
use Rattle.numbers.proofs.Parts.{part_taken, part_same}
use Rattle.numbers.proofs.Locality.{outside_local}
use Rattle.bodies.specs.Utf8.{Range, range, in_range, table, row_of, if_some, goes_on, well_formed, utf8}
use Rattle.bodies.specs.Private.Sequence.{tails_of, low_of, high_of, wanted}

-- both of two tests
pub both_first : (a b : Bool) → pick a b false ≡ true → a ≡ true
both_first true b h = refl
both_first false b h = h

pub both_second : (a b : Bool) → pick a b false ≡ true → b ≡ true
both_second true b h = h
both_second false b h = absurd (true≢false (sym h))

-- below a bound, or not
pub by_less : {P : Type 0} (a b : ℕ) → (a < b → P) → (b ≤ a → P) → P
by_less {P} a b h k =
    by_test (λ (_ : Bool). P) (ltb a b) {x = true} {y = false} (λ e. h (ltb-true a b e)) (λ e. k (ltb-false a b e))

-- two rows are the same
abbrev same_range : Range → Range → Bool
same_range (range a b) (range c d) = pick (eqb a c) (eqb b d) false

abbrev same_ranges : List Range → List Range → Bool
same_ranges [] [] = true
same_ranges [] (r ∷ rs) = false
same_ranges (q ∷ qs) [] = false
same_ranges (q ∷ qs) (r ∷ rs) = pick (same_range q r) (same_ranges qs rs) false

abbrev same_row : Option (List Range) → Option (List Range) → Bool
same_row none none = true
same_row none (some rs) = false
same_row (some qs) none = false
same_row (some qs) (some rs) = same_ranges qs rs

range_is : (q r : Range) → same_range q r ≡ true → q ≡ r
range_is (range a b) (range c d) h = ap₂ range (eqb-true a c (both_first (eqb a c) (eqb b d) h)) (eqb-true b d (both_second (eqb a c) (eqb b d) h))

ranges_are : (qs rs : List Range) → same_ranges qs rs ≡ true → qs ≡ rs
ranges_are [] [] h = refl
ranges_are [] (r ∷ rs) h = absurd (true≢false (sym h))
ranges_are (q ∷ qs) [] h = absurd (true≢false (sym h))
ranges_are (q ∷ qs) (r ∷ rs) h =
    ap₂ ◌∷◌ (range_is q r (both_first (same_range q r) (same_ranges qs rs) h)) (ranges_are qs rs (both_second (same_range q r) (same_ranges qs rs) h))

row_is : (p q : Option (List Range)) → same_row p q ≡ true → p ≡ q
row_is none none h = refl
row_is none (some rs) h = absurd (true≢false (sym h))
row_is (some qs) none h = absurd (true≢false (sym h))
row_is (some qs) (some rs) h = ap some (ranges_are qs rs h)

-- a test at each number below n
abbrev each : (ℕ → Bool) → ℕ → Bool
each t zero = true
each t (suc n) = pick (t n) (each t n) false

each_at : (t : ℕ → Bool) (n k : ℕ) → each t n ≡ true → k < n → t k ≡ true
each_at t zero k h l = absurd (omega arith)
each_at t (suc n) k h l =
    ⊎_elim (λ (e : k ≡ n). rw e (both_first (t n) (each t n) h)) (λ (m : k < n). each_at t n k (both_second (t n) (each t n) h) m)
    (eq-or-lt_of_le (le_of_suc-le-suc l))

-- a row by the three numbers
row_by : ℕ → Option (List Range)
row_by b = pick (eqb (tails_of b) 0) none (some (wanted (tails_of b) (low_of b) (high_of b)))

right : ℕ → Bool
right b = pick (ltb b 128) true (same_row (row_of table b) (row_by b))

rows_right : each right 245 ≡ true
unfolding right row_by row_of table tails_of low_of high_of
rows_right = refl

row_low : (b : ℕ) → 128 ≤ b → b < 245 → row_of table b ≡ row_by b
unfolding right
row_low b h l = row_is (row_of table b) (row_by b) (rw (le-ltb b 128 h) at (each_at right 245 b rows_right l))

row_high : (b : ℕ) → 245 ≤ b → row_of table b ≡ row_by b
unfolding row_by row_of table tails_of
row_high b h =
    rw
    (lt-leb b 0x7F (omega arith), lt-leb b 0xDF (omega arith), lt-leb b 0xE0 (omega arith), lt-leb b 0xEC (omega arith), lt-leb b 0xED (omega arith), lt-leb b 0xEF (omega arith), lt-leb b 0xF0 (omega arith), lt-leb b 0xF3 (omega arith), lt-leb b 0xF4 (omega arith), le-ltb b 0xC2 (omega arith), le-ltb b 0xE0 (omega arith), le-ltb b 0xF0 (omega arith), le-ltb b 0xF5 (omega arith))

row-of : (b : ℕ) → 128 ≤ b → row_of table b ≡ row_by b
row-of b h = by_less b 245 (λ l. row_low b h l) (λ l. row_high b l)

-- a first byte: below 80 it stands alone, from there on it wants what the three numbers say
pub goes_ascii : (b : ℕ) (bs : List ℕ) → b < 128 → goes_on (b ∷ bs) [] ≡ goes_on bs []
unfolding goes_on row_of table
goes_ascii b bs h = rw (le-leb b 0x7F (omega arith), le-leb 0 b (omega arith))

pub goes_lead : (b : ℕ) (bs : List ℕ) → 128 ≤ b → goes_on (b ∷ bs) [] ≡ pick (eqb (tails_of b) 0) false (goes_on bs (wanted (tails_of b) (low_of b) (high_of b)))
unfolding goes_on row_by
goes_lead b bs h = rw (row-of b h) (picked (eqb (tails_of b) 0) (wanted (tails_of b) (low_of b) (high_of b)))
  where
    picked : (t : Bool) (rs : List Range) → if_some (pick t none (some rs)) (goes_on bs) ≡ pick t false (goes_on bs rs)
    picked true rs = refl
    picked false rs = refl

-- a byte that is wanted
pub in-range : (low high b : ℕ) → low ≤ b → b ≤ high → in_range (range low high) b ≡ true
in-range low high b h k = rw (le-leb b high k, le-leb low b h)

pub goes_in : (b : ℕ) (bs : List ℕ) (r : Range) (rs : List Range) → in_range r b ≡ true → goes_on (b ∷ bs) (r ∷ rs) ≡ goes_on bs rs
unfolding goes_on
goes_in b bs r rs h = rw h

pub utf8_out : (s : List ℕ) (at end : ℕ) → outside_of s at end ≡ true → utf8 s at end ≡ false
unfolding utf8
utf8_out s at end o = rw o

-- the bytes there as the machine takes them
pub utf8_inside : (s : List ℕ) (at end : ℕ) → outside_of s at end ≡ false → utf8 s at end ≡ well_formed (take (end - at) (drop at s))
unfolding utf8
utf8_inside s at end o = rw (o, part_taken s at end (inside_order s at end o) (inside_end s at end o))

-- two slices of one length with the same bytes there have the same answer
pub utf8_local : (s t : List ℕ) (at end : ℕ) → length s ≡ length t → Same s t at end → utf8 s at end ≡ utf8 t at end
unfolding utf8
utf8_local s t at end e same =
    rw (← outside_local s t at end e)
    (pick_same (outside_of s at end) (λ _. refl) (λ o. ap well_formed (part_same s t at end e (inside_end s at end o) same)))
