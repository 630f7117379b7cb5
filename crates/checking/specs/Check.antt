-- The change request A.5, "Check a whole map and count it": "A value is checked by checking its body, and a body by checking its values."
-- Assumes nothing.
use Rattle.std.specs.Prelude.{ℕ, zero, suc, ◌-◌, List, length, ltb}
use Rattle.numbers.specs.Outcome.{Outcome, gives, refuses, pick, refuse_if, and_then}
use Rattle.framing.specs.Spans.{Spans}
use Rattle.stepping.specs.Items.{Item, finish, marker, value, field}
use Rattle.stepping.specs.Answers.{Found, found}
use Rattle.stepping.specs.Runs.{cursor}
use Rattle.stepping.specs.declared.cursor.Rules.{Rules}
use Rattle.stepping.specs.declared.cursor.Rules.TheVariants.{Stream}
use Rattle.values.specs.Scalars.{is_container, body_rules}
use Rattle.walking.specs.Walk.{limits_out}
use Rattle.checking.specs.Counts.{markers, pads, place_of, none, counting}
use Rattle.checking.specs.Reading.{Done, done, read_item}

-- how a part is checked, by its rules, how much deeper its containers may be, its end, the position in it and the counts so far: the counts with its own, or
-- the first refusal
abbrev pub Parts : Type 0
Parts = Rules → ℕ → ℕ → ℕ → List ℕ → Outcome (List ℕ)

-- how much deeper a container's own values may be at least, for it to be entered
abbrev pub least_room : ℕ
least_room = 1

-- "its inside": 37 at the descriptor of a container that is as deep as the limit, empty or not
abbrev pub inside_of : Parts → ℕ → Spans → List ℕ → Done → Outcome (List ℕ)
inside_of inside room v c done =
    pick (is_container v)
    (pick (ltb room least_room) (refuses 37 v.descriptor) (inside (body_rules v) (room - 1) v.end v.body (counting (place_of v) 1 c)))
    (gives (counting (place_of v) 1 c))

-- "For one value: span first, annotations next, then its scalar or its inside." Its span is the step's.
unfoldable pub value_check : List ℕ → Parts → ℕ → Spans → List ℕ → Outcome (List ℕ)
value_check s inside room v c = and_then (read_item s v) (inside_of inside room v c)

-- what a step answers, and what is checked behind it
abbrev pub on_answer : List ℕ → Parts → (ℕ → List ℕ → Outcome (List ℕ)) → ℕ → List ℕ → Outcome Item → Outcome (List ℕ)
on_answer s inside onward room c (gives (finish p)) = gives c
on_answer s inside onward room c (gives (marker a major minor e)) = onward e (counting markers 1 c)
on_answer s inside onward room c (gives (value v)) = and_then (value_check s inside room v c) (onward v.end)
on_answer s inside onward room c (gives (field id a v)) = and_then (value_check s inside room v c) (onward v.end)
on_answer s inside onward room c (refuses number position) = refuses number position

-- "Pads count one each at every depth": those that the step skips, also where it then ends
abbrev pub on_found : List ℕ → Parts → (ℕ → List ℕ → Outcome (List ℕ)) → ℕ → List ℕ → Found → Outcome (List ℕ)
on_found s inside onward room c f = on_answer s inside onward room (counting pads (length f.pads) c) f.answer

-- "a body by checking its values", in order, of at most k bytes: those of the part are enough
unfoldable pub part_check : ℕ → ℕ → List ℕ → Parts
part_check limit zero s rules room hi at c = gives c
part_check limit (suc k) s rules room hi at c =
    on_found s (part_check limit k s) (part_check limit k s rules room hi) room c (found limit rules s (cursor at hi))

-- "The answer is the first refusal, or counts": of the stream, in which containers may be as deep as `deepest`; 68 for limits that are none, before all else
unfoldable pub whole_check : ℕ → ℕ → List ℕ → Outcome (List ℕ)
whole_check limit deepest s =
    refuse_if (limits_out limit deepest) 68 0 (part_check limit (length s) s Stream deepest (length s) 0 none)
