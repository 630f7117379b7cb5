-- What holds of whole runs on two maps. The proofs: `overwriting` of proofs/Overwriting.antt, `parts-are-sets` of proofs/PartSets.antt, `one_body` and
-- `still_reached` of proofs/OneBody.antt; of the program's own answers, proofs/Program.antt.
-- Assumes nothing.
use Rattle.std.specs.Prelude.{ℕ, List}
use Rattle.runs.specs.Reached.{ReachedBody, Agree, In, ByRules, SameAnswers}
use Rattle.runs.specs.Overwritten.{Site, Sites, OfPart, Over, SameReached, SameOutside}
use Rattle.stepping.specs.declared.cursor.Rules.{Rules}

-- The change request A.14: of every limit and every two maps of one length, alike but for the bodies, and the annotation bytes, of any set of values and pads
-- that calls on the first reach, none inside another, whichever part of them is the stream: outside them the six entries give the same answers, and what is
-- reached is reached on both.
abbrev pub Overwriting : Type 1
Overwriting =
    (limit : ℕ) (s s' : List ℕ) (lo₀ hi₀ : ℕ) (Chosen : Site → Type 0)
    → Sites limit s (ByRules limit s).step lo₀ hi₀ Chosen → Agree s s' (Over Chosen)
    → SameReached limit s s' lo₀ hi₀ Chosen × SameOutside (ByRules limit s) (ByRules limit s') lo₀ hi₀ Chosen

-- There are such sets: all the values and pads of any one part.
abbrev pub PartsAreSets : Type 0
PartsAreSets =
    (limit : ℕ) (s : List ℕ) (lo₀ hi₀ : ℕ) (rules : Rules) (lo hi : ℕ)
    → Sites limit s (ByRules limit s).step lo₀ hi₀ (OfPart limit s lo₀ hi₀ rules lo hi)

-- Demand 3, second half, a case of it: of every limit and every two maps of one length, alike outside one body that calls on the first reach, whichever part of
-- them is the stream: outside that body the six entries give the same answers, and what was overwritten keeps its span.
abbrev pub OneBody : Type 0
OneBody =
    (limit : ℕ) (s s' : List ℕ) (lo₀ hi₀ b e : ℕ)
    → ReachedBody limit s (ByRules limit s).step lo₀ hi₀ b e → Agree s s' (In b e) → SameAnswers (ByRules limit s) (ByRules limit s') lo₀ hi₀ b e

-- The body is reached on the second map too.
abbrev pub StillReached : Type 0
StillReached =
    (limit : ℕ) (s s' : List ℕ) (lo₀ hi₀ b e : ℕ)
    → ReachedBody limit s (ByRules limit s).step lo₀ hi₀ b e → Agree s s' (In b e) → ReachedBody limit s' (ByRules limit s').step lo₀ hi₀ b e
