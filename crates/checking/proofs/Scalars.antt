-- What is read of a value, in the steps that the code takes: the scalar behind its IDs, and whether it opens; as the tactics are to have it.
-- Assumes nothing.
use Prim.Native.Nat.{ℕ, ◌≤◌}
use native.Mathlib.Omega.{arith}
use mathlib.Core.Path.{◌≡◌, ap}
use mathlib.Core.Bool.{true, false, not}
use mathlib.Core.List.{List}
use lib.ListN.{length}
use borrow.Author.Tests.{not-false}
use Rattle.numbers.specs.Outcome.{Outcome, gives, refuses, and_then}
use Rattle.numbers.proofs.Outcomes.{by_case, within_part, refuse_gives}
use Rattle.framing.specs.Spans.{Spans}
use Rattle.values.specs.Scalars.{is_container, body_rules, Opened, opened, Scalar, scalar_in}
use Rattle.checking.specs.Reading.{read_body, read_content}
use Rattle.values.proofs.Tests.{tests}
use Rattle.checking.proofs.Bounding.{place_small}

module _ (s : List ℕ) (v : Spans) where
  pub content-read : v.body ≤ v.end → v.end ≤ length s → and_then (scalar_in s v) (read_body s v.descriptor) ≡ read_content s v
  unfolding read_content scalar_in
  content-read l m = ap (λ (o : Outcome Scalar). and_then o (read_body s v.descriptor)) (within_part s v.body v.end l m)

-- a body that opens is a container's, with its rules; what does not is none
module _ (v : Spans) where
  open_tests : {o : Opened} → opened v ≡ gives o → (not (is_container v) ≡ false) × (gives (record { rules = body_rules v; body = v.body; end = v.end }) ≡ gives o)
  unfolding opened
  open_tests h = refuse_gives (not (is_container v)) 52 v.descriptor h

  pub opens : (o : Opened) → opened v ≡ gives o → is_container v ≡ true
  opens o h = not-false _ (open_tests h).0

  pub opens_by : (o : Opened) → opened v ≡ gives o → body_rules v ≡ o.rules
  opens_by o h = let e = (open_tests h).1 in cc

  pub opens_not : (number position : ℕ) → opened v ≡ refuses number position → is_container v ≡ false
  unfolding opened
  opens_not number position h = by_case (is_container v) (λ e. absurd (let q = rw e at h in let z : ◌≡◌ {A = ℕ} 0 1 = cc in omega arith)) (λ e. e)

pub ruleset heads = (tests, place_small, opens, opens_by, opens_not)

pub ruleset contents = (content-read)
