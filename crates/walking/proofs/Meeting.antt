-- What a step at a state's place answers, by the name that is read there, where something of the part is left.
-- Assumes nothing.
use Prim.Native.Nat.{ℕ, ◌<◌}
use native.Mathlib.Omega.{arith}
use mathlib.Core.Path.{◌≡◌, ◌∙◌, sym, ap}
use mathlib.Core.Bool.{false}
use mathlib.Core.List.{List}
use lib.ListN.{length}
use Rattle.numbers.specs.Outcome.{Outcome, gives, refuses, outside_of}
use Rattle.numbers.specs.Answers.{Unsigned}
use Rattle.numbers.proofs.Outcomes.{inside_order, inside_end}
use Rattle.framing.specs.Spans.{Spans}
use Rattle.framing.specs.Answers.{read_value}
use Rattle.framing.specs.ShortValue.{short_value, short_value_of}
use Rattle.stepping.specs.Items.{Item}
use Rattle.stepping.specs.Answers.{answer_at}
use Rattle.stepping.specs.Names.{name_at, item_by, answer_from}
use Rattle.stepping.specs.declared.cursor.Rules.{Rules}
use Rattle.stepping.proofs.Plain.{name_in, named_stepped, short_stepped, unnamed_stepped}
use Rattle.walking.specs.Calls.{end_at, rules_at}
use Rattle.walking.specs.declared.walk.Limits.{Limits}
use Rattle.walking.specs.declared.walk.Walk.{Walk}
use Rattle.walking.proofs.Depths.{in_limit}
use Rattle.walking.proofs.Seeking.{step_here}

module _ (limits : Limits) (s : List ℕ) (w : Walk) (rules : Rules) (r : rules ≡ rules_at w w.depth) (o : outside_of s w.at (end_at w w.depth) ≡ false) (n : w.at ≡ end_at w w.depth → ⊥) where
  left_here : w.at < end_at w w.depth
  left_here = omega (arith, inside_order s w.at (end_at w w.depth) o, n)

  -- by the part's rules
  by_rules : {o : Outcome Item} → answer_at limits.bytes rules s w.at (end_at w w.depth) ≡ o → step_here limits.bytes s w ≡ o
  by_rules e = sym (ap (λ (x : Rules). answer_at limits.bytes x s w.at (end_at w w.depth)) r) ∙ e

  module _ (u : Unsigned) (name : name_at rules s w.at (end_at w w.depth) ≡ gives u) where
    pub behind_name : u.next < length s
    behind_name = omega (arith, (name_in rules s w.at (end_at w w.depth) left_here u name).high, inside_end s w.at (end_at w w.depth) o)

    -- a short value behind the name
    pub short_here : (v : Spans) → short_value_of u.next (read_value limits.bytes s u.next (end_at w w.depth)) ≡ short_value v → step_here limits.bytes s w ≡ gives (item_by rules w.at u.value v)
    short_here v e =
        by_rules (short_stepped limits.bytes rules s w.at (end_at w w.depth) (in_limit limits.bytes limits.depth limits.in_range) left_here (inside_end s w.at (end_at w w.depth) o) u name v e)

    -- whatever stands behind it
    pub named_here : {x : Outcome Item} → x ≡ answer_from limits.bytes rules s w.at (end_at w w.depth) u → step_here limits.bytes s w ≡ x
    named_here e = by_rules (sym (e ∙ named_stepped limits.bytes rules s w.at (end_at w w.depth) u name))

  -- the name's refusal
  pub unnamed_here : {number position : ℕ} → name_at rules s w.at (end_at w w.depth) ≡ refuses number position → step_here limits.bytes s w ≡ refuses number position
  unnamed_here name =
      by_rules (unnamed_stepped limits.bytes rules s w.at (end_at w w.depth) (in_limit limits.bytes limits.depth limits.in_range) left_here (inside_end s w.at (end_at w w.depth) o) name)
