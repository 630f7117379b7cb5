-- Where a step's answer leaves its caller: behind an item at its end; behind the end and behind a refusal nothing is to come.
-- Assumes nothing.
use Rattle.std.specs.Prelude.{ℕ, Bool, true, false, Option, Some, None}
use Rattle.numbers.specs.Outcome.{Outcome, gives, refuses}
use Rattle.stepping.specs.Items.{Item, finish, marker, value, field}

abbrev pub left_of : Outcome Item → Option ℕ
left_of (gives (finish p)) = None
left_of (gives (marker a major minor e)) = Some e
left_of (gives (value v)) = Some v.end
left_of (gives (field id a v)) = Some v.end
left_of (refuses number position) = None

-- what is made of the place that an answer leaves, or of none
abbrev pub on_left : {A : Type 0} → Option ℕ → A → (ℕ → A) → A
on_left (Some e) none go = go e
on_left None none go = none

-- the last answer of a list of calls: an end or a refusal
abbrev pub is_last : Outcome Item → Bool
is_last o = on_left (left_of o) true (λ e. false)
