-- The theorems of specs/Theorems.antt: a map's tree is lawful, so that its bytes are read back as it, and they are no longer than the map.
-- Assumes nothing.
use Prim.Native.Nat.{ℕ, zero, suc, ◌+◌}
use native.Mathlib.Omega.{arith}
use mathlib.Core.Path.{◌≡◌, refl, ◌∙◌, sym, ap}
use mathlib.Core.Bool.{true}
use mathlib.Core.List.{List}
use lib.ListN.{length}
use lib.Seq.{take-length}
use Rattle.numbers.specs.Outcome.{refuses}
use Rattle.numbers.specs.Bytes.{part}
use Rattle.numbers.proofs.Outcomes.{by_case}
use Rattle.framing.specs.Limits.{out_of_range}
use Rattle.stepping.specs.Answers.{Found, stop, found, step_of, answer_at}
use Rattle.stepping.specs.Runs.{cursor}
use Rattle.stepping.specs.declared.cursor.Cursor.{Cursor}
use Rattle.stepping.specs.declared.cursor.Rules.{Rules}
use Rattle.stepping.specs.declared.cursor.Rules.TheVariants.{Stream}
use Rattle.encoding.specs.Meaning.{StandsAt}
use Rattle.packing.specs.Tree.{nothing, bytes_of}
use Rattle.packing.specs.Packed.{tree_on, tree_in, tree_of, packed}
use Rattle.packing.specs.Theorems.{PackedShort, PackedTree, PackedTwice}
use Rattle.packing.proofs.Lawful.{Packs, packs}
use Rattle.packing.proofs.ReadBack.{tree_back}

-- without a limit that is one nothing is met
none_found : (limit : ℕ) (s : List ℕ) (rules : Rules) (c : Cursor) → out_of_range limit ≡ true → found limit rules s c ≡ stop (refuses 68 0)
unfolding found
none_found limit s rules c h = rw h

pub unranged : (limit : ℕ) (s : List ℕ) (rules : Rules) (hi at : ℕ) → out_of_range limit ≡ true → answer_at limit rules s at hi ≡ refuses 68 0
unfolding step_of
unranged limit s rules hi at h = ap (λ (f : Found). f.answer) (none_found limit s rules (cursor at hi) h)

unranged_none : (limit : ℕ) (s : List ℕ) (k : ℕ) (rules : Rules) (hi at : ℕ) → out_of_range limit ≡ true → tree_in limit k s rules hi at ≡ nothing
unfolding tree_in
unranged_none limit s zero rules hi at h = refl
unranged_none limit s (suc k) rules hi at h = ap (tree_on s (tree_in limit k s) (tree_in limit k s rules hi)) (unranged limit s rules hi at h)

pub whole_packs : (limit : ℕ) (s : List ℕ) → Packs limit Stream (length s) 0 (tree_of limit s)
unfolding tree_of
whole_packs limit s = packs limit s (length s) Stream (length s) 0

pub packed-short : PackedShort
unfolding packed
packed-short limit s = omega (arith, (whole_packs limit s).short)

-- all of a slice stands at its start
pub whole_stands : (s : List ℕ) → StandsAt s 0 (length s) s
whole_stands s = record { same = ap (λ (n : ℕ). part s 0 n) (let e : 0 + length s ≡ length s = omega arith in e) ∙ take-length s; fits = omega arith; within = omega arith }

pub packed-tree : PackedTree
unfolding packed tree_of
packed-tree limit s =
    by_case (out_of_range limit)
    (λ h. unranged_none limit (packed limit s) (length (packed limit s)) Stream (length (packed limit s)) 0 h ∙ sym (unranged_none limit s (length s) Stream (length s) 0 h))
    (λ h. tree_back limit (packed limit s) h (whole_packs limit s).lawful (length (packed limit s)) 0 (length (packed limit s)) (whole_stands (packed limit s)) (omega arith) (omega arith))

pub packed-twice : PackedTwice
unfolding packed
packed-twice limit s = ap bytes_of (packed-tree limit s)
