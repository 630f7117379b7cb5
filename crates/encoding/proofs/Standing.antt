-- Bytes that stand at a position, taken apart.
-- Assumes nothing.
use Prim.Native.Nat.{ℕ, ◌+◌, ◌≤◌, ◌<◌}
use native.Mathlib.Omega.{arith}
use native.Mathlib.Nat.{add_assoc}
use mathlib.Core.Path.{◌≡◌, ◌∙◌, sym, ap}
use mathlib.Core.List.{List, [], ◌∷◌, ◌++◌}
use lib.ListN.{length, get_or, length-append, get_or-append}
use lib.Seq.{ext_get_or, get_or-append-add}
use Rattle.numbers.specs.Bytes.{part}
use Rattle.numbers.proofs.Parts.{part_length, part_at}
use Rattle.encoding.specs.Meaning.{StandsAt}

-- each byte of what stands there
pub stands_at : {s : List ℕ} {at end : ℕ} {bs : List ℕ} → StandsAt s at end bs → (i : ℕ) → i < length bs → get_or s (at + i) 0 ≡ get_or bs i 0
stands_at {s} {at} {end} {bs} b i h =
    sym (part_at s at (at + length bs) i (omega arith)) ∙ ap (λ (l : List ℕ). get_or l i 0) b.same

-- what is alike byte by byte stands there
pub stands_by : (s : List ℕ) (at end : ℕ) (bs : List ℕ) → at + length bs ≤ end → end ≤ length s → ((i : ℕ) → i < length bs → get_or s (at + i) 0 ≡ get_or bs i 0) → StandsAt s at end bs
stands_by s at end bs f w same =
    record {
      same = ext_get_or 0 (part s at (at + length bs)) bs size (λ i h. let k : i < length bs = rw size at h in part_at s at (at + length bs) i (omega arith) ∙ same i k);
      fits = f;
      within = w;
    }
  where
    size : length (part s at (at + length bs)) ≡ length bs
    size = part_length s at (at + length bs) (omega arith) ∙ omega arith

module _ {s : List ℕ} {at end : ℕ} (xs ys : List ℕ) (b : StandsAt s at end (xs ++ ys)) where
  all : length (xs ++ ys) ≡ length xs + length ys
  all = length-append xs ys

  pub stands_first : StandsAt s at end xs
  stands_first =
      stands_by s at end xs (omega (arith, b.fits, all)) b.within
      (λ i h. stands_at b i (omega (arith, all)) ∙ get_or-append xs ys 0 i h)

  pub stands_rest : StandsAt s (at + length xs) end ys
  stands_rest =
      stands_by s (at + length xs) end ys (omega (arith, b.fits, all)) b.within
      (λ i h.
      ap (λ (j : ℕ). get_or s j 0) (add_assoc at (length xs) i)
      ∙ stands_at b (length xs + i) (omega (arith, all))
      ∙ get_or-append-add xs ys i 0)

module _ {s : List ℕ} {at end : ℕ} (x : ℕ) (ys : List ℕ) (b : StandsAt s at end (x ∷ ys)) where
  pub stands_byte : get_or s at 0 ≡ x
  stands_byte = ap (λ (j : ℕ). get_or s j 0) (let e : at ≡ at + 0 = omega arith in e) ∙ stands_at b 0 (omega arith)

  pub stands_next : StandsAt s (at + 1) end ys
  stands_next = stands_rest (x ∷ []) ys b
