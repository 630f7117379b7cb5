-- The scope paper's "Walk": the whole walk of a map.
-- Assumes nothing.
use Rattle.std.specs.Prelude.{ℕ, zero, suc, Bool, true, List, [], ◌∷◌, length, ltb, eqb}
use Rattle.numbers.specs.Outcome.{Outcome, gives, refuses, pick}
use Rattle.framing.specs.Limits.{out_of_range}
use Rattle.framing.specs.Spans.{Spans}
use Rattle.stepping.specs.Items.{Item, finish, marker, value, field}
use Rattle.stepping.specs.Answers.{answer_at}
use Rattle.stepping.specs.declared.cursor.Rules.{Rules}
use Rattle.stepping.specs.declared.cursor.Rules.TheVariants.{Stream}
use Rattle.values.specs.Scalars.{is_container, body_rules}

-- The change request A.9, "Limits by title": the depth at which a container is too deep is given with each call, "1 to 64", and so is the limit of annotation
-- bytes.
abbrev pub least_depth : ℕ
least_depth = 1

abbrev pub most_depth : ℕ
most_depth = 64

-- 68 "a parameter outside its range": either of the two
unfoldable pub limits_out : ℕ → ℕ → Bool
limits_out limit deepest = pick (out_of_range limit) true (pick (ltb deepest least_depth) true (ltb most_depth deepest))

-- the parts that a walk can be in: the stream, and a body for each depth. "The walk's state grows to 65 ends."
abbrev pub parts : ℕ
parts = suc most_depth

-- an answer of the walk: an item, the end or a refusal, and the depth of the part in which it was met
pub record Visit : Type 0 where
  pub depth : ℕ
  pub answer : Outcome Item

abbrev pub visit : ℕ → Outcome Item → Visit
visit d o = record { depth = d; answer = o }

-- how a walk goes on: into a body of these rules and this depth, from its start to its end, and then what comes after it
abbrev pub Inside : Type 0
Inside = Rules → ℕ → ℕ → ℕ → List Visit → List Visit

-- what follows a value handed out at depth d: "a non-null container before what is in it", then what `onward` says comes behind the value; at the depth
-- `deepest` refusal 37 at its descriptor, and nothing: "a non-null container at depth 32 is handed out, then 37 follows", and by A.9 37 is "tested by the
-- limits given"
abbrev pub behind : ℕ → ℕ → Spans → Inside → (ℕ → List Visit) → List Visit
behind deepest d v inside onward =
    pick (is_container v)
    (pick (eqb d deepest) (visit d (refuses 37 v.descriptor) ∷ [])
    (inside (body_rules v) (suc d) v.end v.body (onward v.end)))
    (onward v.end)

-- what a step at depth d answers, and what follows: behind an item the rest of the part, behind a refusal nothing, and behind the part's end `rest`
abbrev pub following : ℕ → ℕ → List Visit → Inside → (ℕ → List Visit) → Outcome Item → List Visit
following deepest d rest inside onward (gives (finish p)) = rest
following deepest d rest inside onward (gives (marker a major minor e)) = visit d (gives (marker a major minor e)) ∷ onward e
following deepest d rest inside onward (gives (value v)) = visit d (gives (value v)) ∷ behind deepest d v inside onward
following deepest d rest inside onward (gives (field id a v)) = visit d (gives (field id a v)) ∷ behind deepest d v inside onward
following deepest d rest inside onward (refuses number position) = visit d (refuses number position) ∷ []

-- "Markers and values in order": the walk of the part at..hi of depth d, and then `rest`. k is how many bytes it goes at most: those of the part are enough.
unfoldable pub walk_of : ℕ → ℕ → ℕ → List ℕ → Rules → ℕ → ℕ → ℕ → List Visit → List Visit
walk_of limit deepest zero s rules d hi at rest = rest
walk_of limit deepest (suc k) s rules d hi at rest =
    following deepest d rest (walk_of limit deepest k s) (λ e. walk_of limit deepest k s rules d hi e rest) (answer_at limit rules s at hi)

-- "The stream is depth 0": the walk of the whole map, and its end; with limits that are none, 68 alone
unfoldable pub whole_walk : ℕ → ℕ → List ℕ → List Visit
whole_walk limit deepest s =
    pick (limits_out limit deepest) (visit 0 (refuses 68 0) ∷ [])
    (walk_of limit deepest (length s) s Stream 0 (length s) 0 (visit 0 (gives (finish (length s))) ∷ []))
