-- What a step finds, by the bytes: the pads that it skips, and what stands behind them. And an end and a refusal repeat.
-- Assumes nothing.
use Prim.Native.Nat.{ℕ, ◌≤◌}
use mathlib.Core.Path.{◌≡◌, refl, sym, ap}
use mathlib.Core.Bool.{true, false, true≢false}
use mathlib.Core.List.{List}
use lib.ListN.{length}
use Rattle.numbers.specs.Outcome.{Outcome, gives, refuses}
use Rattle.numbers.proofs.Outcomes.{outside_cases}
use Rattle.stepping.specs.Items.{Item, finish}
use Rattle.framing.specs.Limits.{out_of_range}
use Rattle.framing.proofs.Ranges.{out_cases}
use Rattle.stepping.specs.Answers.{Found, found, after, step_of}
use Rattle.stepping.specs.Leaving.{is_last}
use Rattle.stepping.specs.Meaning.{Skips, arrived, passed, Stands, the_end, the_item, refused_there, no_part, no_limit, StepsSound, StepsRepeat, RefusalsKeep}
use Rattle.stepping.specs.Runs.{cursor}
use Rattle.stepping.specs.declared.cursor.Cursor.{Cursor}
use Rattle.stepping.specs.declared.cursor.Rules.{Rules}
use Rattle.stepping.proofs.Places.{ItemIn, a_marker, a_value, a_field, item_in}
use Rattle.stepping.proofs.PadSkipping.{Skipping, at-end, at_pad, at_item, at_refusal, Finds, unranged, unfit, fit, finds}
use Rattle.stepping.proofs.Spans.{pad-at, item-at}
use Rattle.stepping.proofs.Moves.{moves_end}

abbrev Meant : ℕ → Rules → List ℕ → ℕ → ℕ → Found → Type 0
Meant limit rules s at hi f = (z : ℕ) × Skips rules s hi at f.pads z × Stands limit rules s hi z f.answer

walk_meant : (limit : ℕ) (rules : Rules) (s : List ℕ) (hi : ℕ) {at : ℕ} {f : Found} → hi ≤ length s → Skipping limit rules s hi at f → Meant limit rules s at hi f
walk_meant limit rules s hi k at-end = (hi, arrived, the_end refl)
walk_meant limit rules s hi k (at_pad l h d) =
    let p = pad-at limit rules s l k h in
    let r = walk_meant limit rules s hi k d in
    (r.0, passed p.0 p.1 r.1, r.2)
walk_meant limit rules s hi k (at_item {at} l h) = let i = item-at limit rules s l k h in (at, arrived, the_item i.0 i.1)
walk_meant limit rules s hi k (at_refusal {at} l h) = (at, arrived, refused_there l k h)

pub steps-sound : StepsSound
steps-sound limit rules s c = go (finds limit rules s c)
  where
    go : {f : Found} → Finds limit rules s c f → Meant limit rules s c.at c.end f
    go (unranged g) = (c.at, arrived, no_limit (out_cases limit g))
    go (unfit _ h) = (c.at, arrived, no_part (outside_cases s c.at c.end h))
    go (fit _ l m w) = walk_meant limit rules s c.end m w

-- ---- an end and a refusal repeat

-- what an end or a refusal leaves: the cursor given, or, in a part of the slice, its end
data Leaves (limit : ℕ) (s : List ℕ) (c : Cursor) : Outcome Item → Type 0 where
  as_given : {n p : ℕ} → Leaves limit s c (refuses n p)
  at_its_end : out_of_range limit ≡ false → c.end ≤ length s → Leaves limit s c (gives (finish c.end))

walk_leaves : (limit : ℕ) (rules : Rules) (s : List ℕ) (c : Cursor) {at : ℕ} {f : Found} → out_of_range limit ≡ false → c.end ≤ length s → Skipping limit rules s c.end at f → is_last f.answer ≡ true → Leaves limit s c f.answer
walk_leaves limit rules s c g k at-end e = at_its_end g k
walk_leaves limit rules s c g k (at_pad l h d) e = walk_leaves limit rules s c g k d e
walk_leaves limit rules s c g k (at_item {i = i} l h) e = no (item_in limit rules s h) e
  where
    no : {a b : ℕ} {j : Item} → ItemIn a b j → is_last (gives j) ≡ true → Leaves limit s c (gives j)
    no (a_marker p q) e = absurd (true≢false (sym e))
    no (a_value v) e = absurd (true≢false (sym e))
    no (a_field v) e = absurd (true≢false (sym e))
walk_leaves limit rules s c g k (at_refusal l h) e = as_given

leaves : (limit : ℕ) (rules : Rules) (s : List ℕ) (c : Cursor) {f : Found} → Finds limit rules s c f → is_last f.answer ≡ true → Leaves limit s c f.answer
leaves limit rules s c (unranged g) e = as_given
leaves limit rules s c (unfit g h) e = as_given
leaves limit rules s c (fit g l m w) e = walk_leaves limit rules s c g m w e

pub steps_repeat : StepsRepeat
unfolding step_of
steps_repeat limit rules s c e = go (leaves limit rules s c (finds limit rules s c) e) refl
  where
    go : {o : Outcome Item} → Leaves limit s c o → (found limit rules s c).answer ≡ o → step_of limit rules s (after c o) ≡ record { answer = o; next = after c o }
    go as_given q = ap (λ (x : Outcome Item). record { answer = x; next = after c x }) q
    go (at_its_end g k) q = ap (λ (x : Outcome Item). record { answer = x; next = after (cursor c.end c.end) x }) (moves_end limit rules s c.end k g)

pub refusals_keep : RefusalsKeep
unfolding step_of
refusals_keep limit rules s c n p q = rw q
