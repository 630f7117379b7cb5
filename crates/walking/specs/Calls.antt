-- One call of the walk in a given state, and lists of calls.
-- Assumes nothing.
use Rattle.std.specs.Prelude.{ℕ, zero, suc, Bool, true, false, List, [], ◌∷◌, length, get_or, set, replicate, ltb, eqb}
use Rattle.numbers.specs.Outcome.{Outcome, gives, refuses, pick, outside_of}
use Rattle.framing.specs.Spans.{Spans}
use Rattle.stepping.specs.Items.{Item, finish, marker, value, field}
use Rattle.stepping.specs.Answers.{answer_at}
use Rattle.stepping.specs.Leaving.{is_last}
use Rattle.stepping.specs.Read.{item_read}
use Rattle.stepping.specs.declared.cursor.Rules.{Rules}
use Rattle.stepping.specs.declared.cursor.Rules.TheVariants.{Stream, Sequence, Fields}
use Rattle.values.specs.Scalars.{is_container, type_of}
use Rattle.walking.specs.Walk.{limits_out, parts, Visit, visit}
use Rattle.walking.specs.declared.walk.Part.{Part}
use Rattle.walking.specs.declared.walk.Walk.{Walk}
use Rattle.walking.specs.declared.walk.Walked.{Walked}

-- a call's answer, and the state for the next one
pub record Called : Type 0 where
  pub visited : Visit
  pub next : Walk

abbrev pub walked_read : Walked → Called
walked_read r = record { visited = record { depth = r.depth; answer = item_read r.item }; next = r.next }

-- what a state has at a depth that it has not reached
abbrev pub no_part : Part
no_part = record { end = 0; fields = false }

-- the state at a map's start: one part, the stream
abbrev pub start_of : List ℕ → Walk
start_of s =
    record { parts = set (replicate parts no_part) 0 (record { end = length s; fields = false }); depth = 0; at = 0; deep = false }

-- the part of depth d: where it ends, and its rules
abbrev pub end_at : Walk → ℕ → ℕ
end_at w d = (get_or w.parts d no_part).end

abbrev pub rules_at : Walk → ℕ → Rules
rules_at w d = pick (eqb d 0) Stream (pick (get_or w.parts d no_part).fields Fields Sequence)

-- the answer of a step at depth d, where an end leads `up` to the part above
abbrev pub or_above : ℕ → (ℕ → Visit) → Outcome Item → Visit
or_above d up (gives (finish p)) = up p
or_above d up (gives (marker a major minor e)) = visit d (gives (marker a major minor e))
or_above d up (gives (value v)) = visit d (gives (value v))
or_above d up (gives (field id a v)) = visit d (gives (field id a v))
or_above d up (refuses number position) = visit d (refuses number position)

-- from `at` in the part of depth d: what its step answers, or where that part ends, what is answered behind it in the part above; the stream's end is the map's
unfoldable pub seek : ℕ → List ℕ → Walk → ℕ → ℕ → Visit
seek limit s w zero at = visit 0 (answer_at limit Stream s at (end_at w 0))
seek limit s w (suc d) at = or_above (suc d) (seek limit s w d) (answer_at limit (rules_at w (suc d)) s at (end_at w (suc d)))

-- the state at a place of depth d
abbrev pub moved_to : Walk → ℕ → ℕ → Bool → Walk
moved_to w d at deep = record { parts = w.parts; depth = d; at = at; deep = deep }

-- behind a value: in the body of a non-null container; before refusal 37 where that is too deep, its position the container's; else past the value
unfoldable pub state_after_value : ℕ → Walk → ℕ → Spans → Walk
state_after_value deepest w d v =
    pick (is_container v)
    (pick (eqb d deepest) (moved_to w d v.descriptor true)
    (record {
      parts = set w.parts (suc d) (record { end = v.end; fields = eqb (type_of v) 13 });
      depth = suc d;
      at = v.body;
      deep = false;
    }))
    (moved_to w d v.end false)

-- the state behind an answer met at depth d: the one given behind a refusal
abbrev pub state_after_answer : ℕ → Walk → ℕ → Outcome Item → Walk
state_after_answer deepest w d (gives (finish p)) = moved_to w d p false
state_after_answer deepest w d (gives (marker a major minor e)) = moved_to w d e false
state_after_answer deepest w d (gives (value v)) = state_after_value deepest w d v
state_after_answer deepest w d (gives (field id a v)) = state_after_value deepest w d v
state_after_answer deepest w d (refuses number position) = w

abbrev pub state_after_visit : ℕ → Walk → Visit → Walk
state_after_visit deepest w r = state_after_answer deepest w r.depth r.answer

-- at a container that is too deep
unfoldable pub barred : List ℕ → Walk → Visit
barred s w = pick (outside_of s w.at (end_at w w.depth)) (visit 0 (refuses 50 0)) (visit w.depth (refuses 37 w.at))

-- 68 for limits that are none; 50: "a walk state deeper than the walk's limit", which is this call's, or with a part or a position outside the slice, which the
-- step says
unfoldable pub visit_of : ℕ → ℕ → List ℕ → Walk → Visit
visit_of limit deepest s w =
    pick (limits_out limit deepest) (visit 0 (refuses 68 0))
    (pick (ltb deepest w.depth) (visit 0 (refuses 50 0))
    (pick w.deep (barred s w) (seek limit s w w.depth w.at)))

abbrev pub next_of : ℕ → ℕ → List ℕ → Walk → Called
next_of limit deepest s w = record { visited = visit_of limit deepest s w; next = state_after_visit deepest w (visit_of limit deepest s w) }

-- the answers of n calls, each with the state that the call before left, up to the end or the first refusal
unfoldable pub calls : ℕ → ℕ → ℕ → List ℕ → Walk → List Visit
calls limit deepest zero s w = []
calls limit deepest (suc n) s w =
    visit_of limit deepest s w
    ∷ pick (is_last (visit_of limit deepest s w).answer) [] (calls limit deepest n s (state_after_visit deepest w (visit_of limit deepest s w)))

-- the state that n calls leave, those behind the end and behind refusals too
abbrev pub state_after : ℕ → ℕ → ℕ → List ℕ → Walk → Walk
state_after limit deepest zero s w = w
state_after limit deepest (suc n) s w = state_after limit deepest n s (state_after_visit deepest w (visit_of limit deepest s w))

-- the items among answers of the walk: all but the end and a refusal, which come last
abbrev pub items_in : List Visit → ℕ
items_in [] = 0
items_in (v ∷ vs) = pick (is_last v.answer) 0 (suc (items_in vs))
