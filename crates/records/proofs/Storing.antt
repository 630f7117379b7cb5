-- Lists stored in a buffer one after the other, and what the words of a record tell.
-- Assumes nothing.
use Prim.Native.Nat.{ℕ, zero, suc, ◌+◌, ◌*◌, ◌/◌, ◌%◌, ◌^◌, ◌<◌}
use native.Mathlib.Omega.{arith}
use native.Mathlib.Nat as nat
use native.Mathlib.Numerals.{unary_clauses}
use mathlib.Core.Path.{◌≡◌, refl, ◌∙◌, sym, ap}
use mathlib.Core.List.{List, [], ◌∷◌, ◌++◌, append_assoc}
use lib.Dec.{eqb}
use lib.ListN.{length, get_or, take, drop, length-append}
use borrow.Author.Tests.{eq-eqb, ne_eqb}
use borrow.Rule.Slice.PartMut.{put_mid}
use Rattle.std.specs.Int.{w64, to_le_bytes, bytes_low_first}
use Rattle.std.proofs.lemmas.List.{take_more, take_at, drop_at, drop-drop, append-nil, length-take-le}
use Rattle.numbers.proofs.Outcomes.{by_case}
use Rattle.records.specs.Buffer.{little_endian, word_size, bytes_of, number_in}

pub length_little : (n x : ℕ) → length (little_endian n x) ≡ n
unfolding little_endian
length_little zero x = refl
length_little (suc n) x = ap suc (length_little n (x / 256))

pub length_bytes : (ws : List ℕ) → length (bytes_of ws) ≡ word_size * length ws
length_bytes [] = refl
length_bytes (w ∷ ws) =
    length-append (little_endian word_size w) (bytes_of ws) ∙ (let e : length (little_endian word_size w) ≡ word_size = length_little word_size w in omega (arith, e, length_bytes ws))

pub bytes_append : (ws vs : List ℕ) → bytes_of (ws ++ vs) ≡ bytes_of ws ++ bytes_of vs
bytes_append [] vs = refl
bytes_append (w ∷ ws) vs =
    ap (λ (l : List ℕ). little_endian word_size w ++ l) (bytes_append ws vs) ∙ sym (append_assoc (little_endian word_size w) (bytes_of ws) (bytes_of vs))

-- the library's bytes of a number from byte i on are those of what is left of it there
bytes_from : (i n x : ℕ) → bytes_low_first (suc i) n x ≡ little_endian n (x / 256 ^ suc i)
unfolding little_endian
bytes_from i zero x = refl
bytes_from i (suc n) x =
    let e : x / 256 ^ suc (suc i) ≡ x / 256 ^ suc i / 256 = simp unary_clauses (sym (nat.div-div-eq-div-mul x (256 ^ i * 256) 256)) in
    ap (λ (l : List ℕ). x / 256 ^ suc i % 256 ∷ l) (bytes_from (suc i) n x ∙ ap (little_endian n) e)

pub little_is : (x : ℕ) → to_le_bytes w64 x ≡ little_endian word_size x
unfolding little_endian
little_is x = ap (λ (l : List ℕ). x % 256 ∷ l) (bytes_from 0 7 x)

-- one more word behind those so far, over what the buffer held
pub next_word : (ws old xs ys : List ℕ) (i k : ℕ) → i < length ws → k ≡ word_size → xs ≡ bytes_of (take i ws) ++ drop (i * word_size) old → ys ≡ little_endian word_size (get_or ws i 0)
    → put_mid (i * word_size) k xs ys ≡ bytes_of (take (i + 1) ws) ++ drop ((i + 1) * word_size) old
next_word ws old xs ys i k h kk e w =
    let a = i * word_size in
    let front = bytes_of (take i ws) in
    let long : length front ≡ a = omega (arith, length_bytes (take i ws), length-take-le i ws (omega arith)) in
    let b : take a xs ≡ front = ap (take a) e ∙ take_at front (drop a old) a long in
    let c : drop k (drop a xs) ≡ drop ((i + 1) * word_size) old = ap (λ (l : List ℕ). drop k (drop a l)) e ∙ ap (drop k) (drop_at front (drop a old) a long) ∙ drop-drop k a old ∙ ap (λ (n : ℕ). drop n old) (omega arith) in
    let more : bytes_of (take (i + 1) ws) ≡ front ++ ys =
    ap bytes_of (take_more ws i 0 h) ∙ bytes_append (take i ws) (get_or ws i 0 ∷ []) ∙ ap (λ (l : List ℕ). front ++ l) (append-nil _ ∙ sym w) in
    rw (more, b, c) (sym (append_assoc front ys (drop ((i + 1) * word_size) old)))

pub ruleset stored = (next_word, little_is)

-- what the words of a record tell: a refusal's number, where they are those of a refusal
module _ (ws : List ℕ) where
  pub told_refused : get_or ws 0 0 ≡ 9 → number_in ws ≡ get_or ws 1 0
  unfolding number_in
  told_refused e = rw (eq-eqb _ _ e)

  pub told_other : (get_or ws 0 0 ≡ 9 → ⊥) → number_in ws ≡ 0
  unfolding number_in
  told_other e = rw (ne_eqb _ _ e)

-- and nothing by too few
pub told_short : (ws : List ℕ) → length ws < 2 → number_in ws ≡ 0
unfolding number_in
told_short [] h = refl
told_short (x ∷ []) h = by_case (eqb x 9) (λ e. rw e) (λ e. rw e)
told_short (x ∷ y ∷ ws) h = absurd (omega arith)

pub ruleset told = (told_refused, told_other, told_short)
