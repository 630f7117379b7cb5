-- The change request A.8: "A bounded step takes a largest number of pads."
-- Assumes nothing.
use Rattle.std.specs.Prelude.{ℕ, zero, suc, Bool, false, List, [], ◌∷◌, length, get_or, ltb, eqb}
use Rattle.numbers.specs.Outcome.{Outcome, gives, refuses, pick, outside_of}
use Rattle.numbers.specs.Answers.{Unsigned}
use Rattle.framing.specs.Limits.{out_of_range}
use Rattle.stepping.specs.Items.{Pad}
use Rattle.stepping.specs.Answers.{found, after}
use Rattle.stepping.specs.Names.{name_at}
use Rattle.stepping.specs.declared.cursor.Cursor.{Cursor}
use Rattle.stepping.specs.declared.cursor.Rules.{Rules}
use Rattle.counting.specs.Pads.{begins_pad}
use Rattle.counting.specs.Counted.{Counted, unbegun, counted}

-- What a bounded step answers: the step's answer with its counts; or kind 4, the number of pads passed and the new position.
pub data Bounded : Type 0 where
  reached : Counted → Bounded
  more : ℕ → ℕ → Bounded

-- "after the last pad passed": where the first n of these pads end, from the place a on
abbrev pub behind_pads : ℕ → ℕ → List Pad → ℕ
behind_pads zero a ps = a
behind_pads (suc n) a [] = a
behind_pads (suc n) a (p ∷ ps) = behind_pads n p.end ps

-- "another pad's descriptor comes next, in a struct after its field ID": behind the name at a place, before the part's end
abbrev pub pad_behind : List ℕ → Outcome Unsigned → Bool
pad_behind s (gives u) = begins_pad (get_or s u.next 0)
pad_behind s (refuses number position) = false

unfoldable pub pad_next : Rules → List ℕ → ℕ → ℕ → Bool
pad_next rules s at hi = pick (ltb at hi) (pad_behind s (name_at rules s at hi)) false

-- "kind 4 exactly when that many pads were passed and another pad's descriptor comes next", of a step that passes these pads
unfoldable pub stops_among : ℕ → Rules → List ℕ → Cursor → List Pad → Bool
stops_among most rules s c pads = pick (ltb (length pads) most) false (pad_next rules s (behind_pads most c.at pads) c.end)

unfoldable pub bounded_in : ℕ → ℕ → Rules → List ℕ → Cursor → Bounded
bounded_in limit most rules s c =
    pick (stops_among most rules s c (found limit rules s c).pads) (more most (behind_pads most c.at (found limit rules s c).pads))
    (reached (counted limit rules s c))

-- 68, 50, and "67 a largest number of 0, after 50, position 0"
unfoldable pub bounded : ℕ → ℕ → Rules → List ℕ → Cursor → Bounded
bounded limit most rules s c =
    pick (out_of_range limit) (reached (unbegun 68))
    (pick (outside_of s c.at c.end) (reached (unbegun 50))
    (pick (eqb most 0) (reached (unbegun 67))
    (bounded_in limit most rules s c)))

-- "The new cursor is then after the last pad passed"; else it is the step's, which "a refusal among those pads leaves" as given
abbrev pub bounded_after : Cursor → Bounded → Cursor
bounded_after c (reached r) = after c r.answer
bounded_after c (more n p) = record { at = p; end = c.end }

-- a bounded step's answer and the cursor that it leaves
pub record BoundedStepped : Type 0 where
  pub answer : Bounded
  pub next : Cursor

unfoldable pub bounded_step_of : ℕ → ℕ → Rules → List ℕ → Cursor → BoundedStepped
bounded_step_of limit most rules s c =
    record { answer = bounded limit most rules s c; next = bounded_after c (bounded limit most rules s c) }
