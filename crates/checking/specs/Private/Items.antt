-- What is met of a map, as the check goes on with it; and what keeps the counts from overflowing.
-- Assumes nothing.
use Rattle.std.specs.Prelude.{ℕ, ◌/◌, ◌≤◌, ◌<◌, ◌≡◌, List, length, get_or}
use Rattle.numbers.specs.Outcome.{Outcome, gives, refuses}
use Rattle.framing.specs.Spans.{Spans}
use Rattle.stepping.specs.Items.{Item, finish, marker, value, field}
use Rattle.checking.specs.Counts.{places}

-- no count exceeds the position that is reached
pub record Below (at : ℕ) (c : List ℕ) : Type 0 where
  pub long : length c ≡ places
  pub each : (i : ℕ) → i < places → get_or c i 0 ≤ at

-- a value of the slice, and of a type
pub record Placed (s : List ℕ) (v : Spans) : Type 0 where
  pub bodied : v.descriptor < v.body
  pub ended : v.body ≤ v.end
  pub within : v.end ≤ length s
  pub typed : v.byte / 16 ≤ 13

-- where an item begins: an end where its part ends
abbrev pub start_of : Item → ℕ
start_of (finish p) = p
start_of (marker a major minor e) = a
start_of (value v) = v.start
start_of (field id a v) = a

-- a value that is met lies in what is left of the part
abbrev pub ValueFits : List ℕ → ℕ → ℕ → Spans → Type 0
ValueFits s at hi v = (at ≤ v.descriptor) × (v.end ≤ hi) × Placed s v

-- what is met at `at` lies in what is left of the part, of which at its end nothing is
abbrev pub Fits : List ℕ → ℕ → ℕ → Outcome Item → Type 0
Fits s at hi (gives (finish p)) = at ≡ hi
Fits s at hi (gives (marker a major minor e)) = (at < e) × (e ≤ hi)
Fits s at hi (gives (value v)) = ValueFits s at hi v
Fits s at hi (gives (field id a v)) = ValueFits s at hi v
Fits s at hi (refuses number position) = Unit {0}
