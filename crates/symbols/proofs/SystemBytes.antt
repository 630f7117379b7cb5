-- The nine texts: equality of bytes by its test, and where each text lies among them.
-- Assumes nothing.
use Prim.Native.Nat.{ℕ, zero, suc, ◌+◌, ◌≤◌, ◌<◌}
use native.Mathlib.Omega.{arith}
use native.Mathlib.Nat.{le_of_suc-le-suc, not-suc-le-zero}
use borrow.Author.Tests.{eqb-true}
use mathlib.Core.Path.{◌≡◌, refl, ◌∙◌, sym, ap}
use mathlib.Core.Bool.{Bool, true, false, ◌&&◌, true≢false}
use Rattle.std.specs.Cmp.Lexicographic.{pointwise}
use mathlib.Core.List.{List, [], ◌∷◌, ◌++◌}
use lib.ListN.{length, get_or, take, drop, length-append}
use lib.Seq.{take-append-add, drop-append-add}
use lib.Dec.{eqb}
use Rattle.numbers.specs.Outcome.{pick}
use Rattle.numbers.specs.Bytes.{part}
use Rattle.symbols.specs.SystemTexts.{system_texts, joined, system_bytes, text_start, same_bytes}

pub same_bytes_lem : (a b : List ℕ) → same_bytes a b ≡ true → a ≡ b
unfolding same_bytes
same_bytes_lem [] [] h = refl
same_bytes_lem [] (y ∷ ys) h = absurd (true≢false (sym h))
same_bytes_lem (x ∷ xs) [] h = absurd (true≢false (sym h))
same_bytes_lem (x ∷ xs) (y ∷ ys) h = first (eqb x y) (eqb-true x y) h (same_bytes_lem xs ys)
  where
    first : (t : Bool) → (t ≡ true → x ≡ y) → pick t (same_bytes xs ys) false ≡ true → (same_bytes xs ys ≡ true → xs ≡ ys) → x ∷ xs ≡ y ∷ ys
    first true e h r = let p = e refl in let q = r h in cc
    first false e h r = absurd (true≢false (sym h))

-- the slices' own equality
pub pointwise_same : (a b : List ℕ) → pointwise eqb a b ≡ same_bytes a b
unfolding same_bytes
pointwise_same [] [] = refl
pointwise_same [] (y ∷ ys) = refl
pointwise_same (x ∷ xs) [] = refl
pointwise_same (x ∷ xs) (y ∷ ys) = rw (pointwise_same xs ys) (both (eqb x y) (same_bytes xs ys))
  where
    both : (a b : Bool) → (a && b) ≡ pick a b false
    both true b = refl
    both false b = refl

-- each text begins where those before it end, and they end with the last
starts_rise : (ts : List (List ℕ)) (n : ℕ) → length (joined (take n ts)) ≤ length (joined (take (suc n) ts))
starts_rise ts zero = omega arith
starts_rise [] (suc n) = omega arith
starts_rise (t ∷ ts) (suc n) =
    let h = starts_rise ts n in
    omega (arith, length-append t (joined (take n ts)), length-append t (joined (take (suc n) ts)))

starts_end : (ts : List (List ℕ)) (n : ℕ) → length (joined (take n ts)) ≤ length (joined ts)
starts_end ts zero = omega arith
starts_end [] (suc n) = omega arith
starts_end (t ∷ ts) (suc n) =
    let h = starts_end ts n in omega (arith, length-append t (joined (take n ts)), length-append t (joined ts))

-- and what lies there is the text
text_there : (ts : List (List ℕ)) (n : ℕ) → n < length ts → part (joined ts) (length (joined (take n ts))) (length (joined (take (suc n) ts))) ≡ get_or ts n []
text_there [] n h = absurd (not-suc-le-zero h)
text_there (t ∷ ts) zero h = rw (length-append t [], take-append-add t (joined ts) 0) (append_none t)
  where
    append_none : (xs : List ℕ) → xs ++ [] ≡ xs
    append_none [] = refl
    append_none (x ∷ xs) = ap (λ (l : List ℕ). x ∷ l) (append_none xs)
text_there (t ∷ ts) (suc n) h =
    rw (length-append t (joined (take n ts)), length-append t (joined (take (suc n) ts)))
    (ap (drop (length t + length (joined (take n ts)))) (take-append-add t (joined ts) (length (joined (take (suc n) ts))))
    ∙ drop-append-add t (take (length (joined (take (suc n) ts))) (joined ts)) (length (joined (take n ts)))
    ∙ text_there ts n (le_of_suc-le-suc h))

pub start_order : (n : ℕ) → text_start n ≤ text_start (suc n)
unfolding text_start
start_order n = starts_rise system_texts n

pub start_within : (n : ℕ) → text_start n ≤ length system_bytes
unfolding text_start system_bytes
start_within n = starts_end system_texts n

pub system_part : (n : ℕ) → n < 9 → part system_bytes (text_start n) (text_start (suc n)) ≡ get_or system_texts n []
unfolding text_start system_bytes system_texts
system_part n h = text_there system_texts n h
