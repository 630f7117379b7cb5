-- What a `?` passes on is the refusal that was read.
-- Assumes nothing.
use mathlib.Core.Path.{◌≡◌, ap}
use Rattle.std.specs.Prelude.{Result, Ok, Err, IsErrAnd}
use Rattle.numbers.specs.Read.{refusal_read, outcome}
use Rattle.numbers.specs.declared.refusal.Refusal.{Refusal}

pub passed_on : {A B : Type 0} (f : A → B) (r : Result A Refusal) (e : Refusal) → IsErrAnd r (λ x. x ≡ e) → outcome f r ≡ refusal_read e
passed_on f (Ok a) e h = absurd h
passed_on f (Err d) e h = ap refusal_read h
