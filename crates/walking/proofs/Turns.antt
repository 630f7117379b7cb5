-- A turn of the count: what the place of a state that is `count` items behind the start means for how many there are in all, `total`.
-- Assumes nothing.
use Prim.Native.Nat.{ℕ, suc, ◌+◌, ◌-◌, ◌≤◌, ◌<◌}
use native.Mathlib.Omega.{arith}
use mathlib.Core.Path.{◌≡◌, ◌∙◌, sym, ap}
use mathlib.Core.Bool.{true, false}
use mathlib.Core.List.{List}
use lib.ListN.{length, get_or}
use Rattle.std.specs.Prelude.{Result, Ok, Err}
use Rattle.numbers.specs.Outcome.{Outcome, gives, refuses, outside_of}
use Rattle.numbers.specs.declared.refusal.Refusal.{Refusal}
use Rattle.numbers.proofs.Outcomes.{inside_order, inside_end}
use Rattle.stepping.specs.Items.{Item, finish}
use Rattle.stepping.specs.Leaving.{is_last}
use Rattle.stepping.specs.Names.{name_at, answer_from}
use Rattle.stepping.specs.Read.{name_of, named_read, item_read}
use Rattle.stepping.specs.declared.cursor.Item.{Item as ItemEnum}
use Rattle.stepping.specs.declared.cursor.Item.TheVariants.{End}
use Rattle.stepping.specs.declared.cursor.Name.{Name}
use Rattle.stepping.specs.declared.cursor.Rules.{Rules}
use Rattle.walking.specs.Walk.{visit}
use Rattle.walking.specs.Calls.{no_part, end_at, moved_to, state_after_visit, visit_of, calls, items_in}
use Rattle.walking.specs.Private.State.{rules_by}
use Rattle.walking.specs.declared.walk.Limits.{Limits}
use Rattle.walking.specs.declared.walk.Walk.{Walk}
use Rattle.walking.proofs.Depths.{in_limit}
use Rattle.walking.proofs.Seeking.{step_here, item_here, refused_here, end_here, above_here, too_deep, barred_last, outside_here, nothing_here}
use Rattle.walking.proofs.Counting.{none_called, last_called, one_called, same_called, after_depth}
use Rattle.walking.proofs.Meeting.{behind_name, named_here, unnamed_here}

-- the items counted, with those that the calls which are left hand out, are all
pub record Counted (limits : Limits) (most count total : ℕ) (s : List ℕ) (w : Walk) : Type 0 where
  pub below : count ≤ most
  pub sum : count + items_in (calls limits.bytes limits.depth (most - count) s w) ≡ total

module _ {limits : Limits} {most count total : ℕ} {s : List ℕ} {w : Walk} (i : Counted limits most count total s w) where
  -- the count ends where the answer is the last
  pub stopped : is_last (visit_of limits.bytes limits.depth s w).answer ≡ true → count ≡ total
  stopped h = omega (arith, i.sum, last_called limits.bytes limits.depth s w h (most - count))

  pub all_counted : most ≤ count → count ≡ total
  all_counted h =
      let z : most - count ≡ 0 = omega (arith, h) in
      omega (arith, i.sum, none_called limits.bytes limits.depth s w z)

  pub deep_counted : limits.depth < w.depth → count ≡ total
  deep_counted h = stopped (too_deep limits.bytes limits.depth s w h)

  pub barred_counted : w.deep ≡ true → count ≡ total
  barred_counted h = stopped (barred_last limits.bytes limits.depth s w h)

  module _ (d : w.depth ≤ limits.depth) (b : w.deep ≡ false) where
    pub refused : {number position : ℕ} → step_here limits.bytes s w ≡ refuses number position → count ≡ total
    refused h = stopped (refused_here limits.bytes limits.depth s w limits.in_range d b h)

    pub ended : {p : ℕ} → w.depth ≡ 0 → step_here limits.bytes s w ≡ gives (finish p) → count ≡ total
    ended z h = stopped (end_here limits.bytes limits.depth s w limits.in_range d b z h)

    -- at a body's end the place above has as many items left
    pub rose : {q : ℕ} (x : Walk) → outside_of s w.at (end_at w w.depth) ≡ false → 1 ≤ w.depth → step_here limits.bytes s w ≡ gives (finish q) → x ≡ moved_to w (w.depth - 1) (end_at w w.depth) false → Counted limits most count total s x
    rose x o n e h =
        let v = above_here limits.bytes limits.depth s w limits.in_range d b n (inside_order s w.at (end_at w w.depth) o) (inside_end s w.at (end_at w w.depth) o) e in
        let m = same_called limits.bytes limits.depth s w (w.depth - 1) (end_at w w.depth) false v (most - count) in
        let u = ap (λ (z : Walk). items_in (calls limits.bytes limits.depth (most - count) s z)) h in
        record { below = i.below; sum = omega (arith, i.sum, m, u) }

    -- behind an item there is one less to count, and the place is not too deep
    pub went : (o : Outcome Item) (x : Walk) → count < most → is_last o ≡ false → step_here limits.bytes s w ≡ o → x ≡ state_after_visit limits.depth w (visit w.depth o) → Counted limits most (count + 1) total s x × (x.depth ≤ limits.depth)
    went o x l n e h =
        let q : most - count ≡ suc (most - (count + 1)) = omega (arith, l) in
        let m = one_called limits.bytes limits.depth s w (item_here limits.bytes limits.depth s w limits.in_range d b o n e) n q in
        let k = ap (λ (z : Walk). items_in (calls limits.bytes limits.depth (most - (count + 1)) s z)) h in
        let t = ap (λ (z : Walk). z.depth) h in
        (record { below = omega (arith, l); sum = omega (arith, i.sum, m, k) }, omega (arith, t, after_depth limits.depth w w.depth o n d))

    pub outside_counted : outside_of s w.at (end_at w w.depth) ≡ true → count ≡ total
    outside_counted o = refused (outside_here limits.bytes s w (in_limit limits.bytes limits.depth limits.in_range) o)

    module _ (o : outside_of s w.at (end_at w w.depth) ≡ false) where
      -- where nothing of the part is left
      nothing : w.at ≡ end_at w w.depth → step_here limits.bytes s w ≡ gives (finish (end_at w w.depth))
      nothing e = nothing_here limits.bytes s w (in_limit limits.bytes limits.depth limits.in_range) e (inside_end s w.at (end_at w w.depth) o)

      pub end_counted : w.at ≡ end_at w w.depth → w.depth ≡ 0 → count ≡ total
      end_counted e z = ended z (nothing e)

      pub end_risen : (x : Walk) → w.at ≡ end_at w w.depth → (w.depth ≡ 0 → ⊥) → x ≡ moved_to w (w.depth - 1) (end_at w w.depth) false → Counted limits most count total s x
      end_risen x e z h = rose x o (omega (arith, z)) (nothing e) h

      -- by the name that is read, and what stands behind it
      module _ {rules : Rules} {x : Result Name Refusal} (r : rules ≡ rules_by w.depth (get_or w.parts w.depth no_part).fields) (n : w.at ≡ end_at w w.depth → ⊥) (e : named_read x ≡ name_at rules s w.at (end_at w w.depth)) where
        pub unnamed_counted : {f : Refusal} → x ≡ Err f → count ≡ total
        unnamed_counted h = refused (unnamed_here limits s w rules r o n (sym e ∙ ap named_read h))

        module _ {m : Name} (h : x ≡ Ok m) where
          name : name_at rules s w.at (end_at w w.depth) ≡ gives (name_of m)
          name = sym e ∙ ap named_read h

          pub name_in_slice : m.next < length s
          name_in_slice = behind_name limits s w rules r o n (name_of m) name

          module _ {y : Result ItemEnum Refusal} (k : item_read y ≡ answer_from limits.bytes rules s w.at (end_at w w.depth) (name_of m)) where
            pub refused_counted : {f : Refusal} → y ≡ Err f → count ≡ total
            refused_counted q = refused (named_here limits s w rules r o n (name_of m) name k ∙ ap item_read q)

            pub over_counted : {p : ℕ} → y ≡ Ok (End p) → w.depth ≡ 0 → count ≡ total
            over_counted q z = ended z (named_here limits s w rules r o n (name_of m) name k ∙ ap item_read q)

            pub over_risen : {p : ℕ} (v : Walk) → y ≡ Ok (End p) → 0 < w.depth → v ≡ moved_to w (w.depth - 1) (end_at w w.depth) false → Counted limits most count total s v
            over_risen v q z g = rose v o (omega (arith, z)) (named_here limits s w rules r o n (name_of m) name k ∙ ap item_read q) g

pub ruleset turns = (all_counted, deep_counted, barred_counted, outside_counted, end_counted, end_risen)
