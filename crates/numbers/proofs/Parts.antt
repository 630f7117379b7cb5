-- Parts of a slice: their first byte and the rest, as the machine takes them, and that two slices with the same bytes there have the same part.
-- Assumes nothing.
use Prim.Native.Nat.{ℕ, ◌+◌, ◌-◌, ◌≤◌, ◌<◌}
use native.Mathlib.Omega.{arith}
use native.Mathlib.Numerals.{add-one}
use mathlib.Core.Path.{◌≡◌, ◌∙◌, sym, ap}
use mathlib.Core.List.{List, [], ◌∷◌}
use lib.ListN.{length, get_or, take, drop, length-take, length-drop}
use lib.Seq.{slice-cons, slice_empty, length-slice, ext_get_or, get_or-take, get_or-drop}
use Rattle.numbers.specs.Bytes.{part, Same}

pub part_cons : (s : List ℕ) (a b : ℕ) → a < b → b ≤ length s → part s a b ≡ get_or s a 0 ∷ part s (a + 1) b
part_cons s a b h l = slice-cons a b s 0 h l ∙ ap (λ (n : ℕ). get_or s a 0 ∷ part s n b) (sym (add-one a))

pub part_none : (s : List ℕ) (a : ℕ) → part s a a ≡ []
part_none s a = slice_empty a s

pub part_one : (s : List ℕ) (a : ℕ) → a < length s → part s a (a + 1) ≡ get_or s a 0 ∷ []
part_one s a h =
    part_cons s a (a + 1) (omega arith) (omega arith) ∙ ap (λ (l : List ℕ). get_or s a 0 ∷ l) (part_none s (a + 1))

pub part_length : (s : List ℕ) (a b : ℕ) → b ≤ length s → length (part s a b) ≡ b - a
part_length s a b h = length-slice a b s h

pub part_at : (s : List ℕ) (a b i : ℕ) → a + i < b → get_or (part s a b) i 0 ≡ get_or s (a + i) 0
part_at s a b i h = get_or-drop a (take b s) i 0 ∙ get_or-take b s (a + i) 0 h

-- a part as the machine takes it
pub part_taken : (s : List ℕ) (a b : ℕ) → a ≤ b → b ≤ length s → take (b - a) (drop a s) ≡ part s a b
part_taken s a b h k =
    ext_get_or 0 (take (b - a) (drop a s)) (part s a b) (same_length ∙ sym (part_length s a b k)) (λ i l.
    let m : i < b - a = rw same_length at l in
    get_or-take (b - a) (drop a s) i 0 m ∙ get_or-drop a s i 0 ∙ sym (part_at s a b i (omega arith)))
  where
    same_length : length (take (b - a) (drop a s)) ≡ b - a
    same_length = simp (length-take, length-drop) (omega arith)

pub part_same : (s t : List ℕ) (a b : ℕ) → length s ≡ length t → b ≤ length s → Same s t a b → part s a b ≡ part t a b
part_same s t a b l k same =
    ext_get_or 0 (part s a b) (part t a b) (part_length s a b k ∙ sym (part_length t a b (omega arith))) (λ i h.
    let m : i < b - a = rw (part_length s a b k) at h in
    part_at s a b i (omega arith) ∙ same (a + i) (omega arith) (omega arith) ∙ sym (part_at t a b i (omega arith)))
