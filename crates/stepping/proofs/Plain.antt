-- A step that passes no pad, by its name: it answers the short value behind the name, what stands behind the name whatever it is, and the name's refusal.
-- Assumes nothing.
use Prim.Native.Nat.{ℕ, ◌≤◌, ◌<◌}
use native.Mathlib.Omega.{arith}
use borrow.Author.Tests.{ne_eqb, eqb-false}
use mathlib.Core.Path.{◌≡◌, refl, ◌∙◌, sym, ap}
use mathlib.Core.Bool.{false}
use mathlib.Core.List.{List}
use lib.ListN.{length, get_or}
use lib.Dec.{eqb}
use Rattle.numbers.specs.Outcome.{Outcome, gives, refuses}
use Rattle.numbers.specs.Answers.{Unsigned}
use Rattle.numbers.proofs.Outcomes.{Each, given, each_refuse, each_then, each_of}
use Rattle.numbers.proofs.Meaning.{var_uint_bounded}
use Rattle.framing.specs.Limits.{out_of_range}
use Rattle.framing.specs.Spans.{Spans}
use Rattle.framing.specs.Answers.{read_value}
use Rattle.framing.specs.ShortValue.{short_value, short_value_of}
use Rattle.framing.proofs.ShortValues.{short_framed, short_bounds}
use Rattle.stepping.specs.Items.{Item}
use Rattle.stepping.specs.Answers.{hand, tile_at, stop, answer_at}
use Rattle.stepping.specs.Names.{followed, field_id, name_at, item_by, tile_behind, is_marker, answer_from}
use Rattle.stepping.specs.declared.cursor.Rules.{Rules}
use Rattle.stepping.specs.declared.cursor.Rules.TheVariants.{Stream, Sequence, Fields}
use Rattle.stepping.proofs.Naming.{name_read, tile_named, answer-from}
use Rattle.stepping.proofs.PadSkipping.{answered, answer_is}

-- where a name ends: not before it begins, and before the part does
pub record NameIn (at end : ℕ) (u : Unsigned) : Type 0 where
  pub low : at ≤ u.next
  pub high : u.next < end

name_each : (rules : Rules) (s : List ℕ) (at end : ℕ) → at < end → Each (NameIn at end) (name_at rules s at end)
unfolding field_id followed
name_each Stream s at end l = given {a = record { value = 0; next = at }} (record { low = omega arith; high = l })
name_each Sequence s at end l = given {a = record { value = 0; next = at }} (record { low = omega arith; high = l })
name_each Fields s at end l =
    each_then (var_uint_bounded s at end) (λ u b.
    each_refuse (eqb u.next end) 7 end (λ e.
    given {a = u} (record { low = omega (arith, b.begins); high = omega (arith, b.ends, eqb-false u.next end e) })))

pub name_in : (rules : Rules) (s : List ℕ) (at end : ℕ) → at < end → (u : Unsigned) → name_at rules s at end ≡ gives u → NameIn at end u
name_in rules s at end l u name = each_of (name_each rules s at end l) name

-- whatever stands behind the name
pub named_stepped : (limit : ℕ) (rules : Rules) (s : List ℕ) (at end : ℕ) (u : Unsigned) → name_at rules s at end ≡ gives u → answer_from limit rules s at end u ≡ answer_at limit rules s at end
named_stepped limit rules s at end u name = answer-from limit rules s at end u (λ _. name_read rules s at end u name)

-- where a name ends
abbrev next_in : Outcome Unsigned → ℕ
next_in (gives u) = u.next
next_in (refuses n p) = 0

-- a value without a wrapper begins no marker, also where its name is empty
pub unmarked : (rules : Rules) (s : List ℕ) (at end : ℕ) (u : Unsigned) → name_at rules s at end ≡ gives u → get_or s u.next 0 < 224 → is_marker rules (get_or s at 0) ≡ false
unmarked Stream s at end u name h =
    let e : at ≡ u.next = ap next_in name in
    let n : get_or s at 0 < 224 = rw e h in
    ne_eqb (get_or s at 0) 224 (omega arith)
unmarked Sequence s at end u name h = refl
unmarked Fields s at end u name h = refl

module _ (limit : ℕ) (rules : Rules) (s : List ℕ) (at end : ℕ) (g : out_of_range limit ≡ false) (l : at < end) (m : end ≤ length s) where
  -- a short value behind the name
  pub short_stepped : (u : Unsigned) → name_at rules s at end ≡ gives u → (v : Spans) → short_value_of u.next (read_value limit s u.next end) ≡ short_value v → answer_at limit rules s at end ≡ gives (item_by rules at u.value v)
  unfolding tile_behind
  short_stepped u name v e =
      let i : Item = item_by rules at u.value v in
      let n : is_marker rules (get_or s at 0) ≡ false = unmarked rules s at end u name (short_bounds limit s u.next end e).low in
      let frame = short_framed limit s u.next end e in
      let tile : gives (hand i) ≡ tile_at limit rules s at end = sym (tile_named limit s at end rules n ∙ (rw (name, frame))) in
      sym (answer_is limit rules s at end (gives i) (stop (gives i)) g (omega arith) m (answered limit rules s at end (gives i) l tile) refl)

  -- only a struct's name is refused
  pub refused_unmarked : (r : Rules) {number position : ℕ} → name_at r s at end ≡ refuses number position → is_marker r (get_or s at 0) ≡ false
  refused_unmarked Stream e = absurd (let z : ◌≡◌ {A = ℕ} 0 1 = cc in omega arith)
  refused_unmarked Sequence e = refl
  refused_unmarked Fields e = refl

  -- the name's refusal
  pub unnamed_stepped : {number position : ℕ} → name_at rules s at end ≡ refuses number position → answer_at limit rules s at end ≡ refuses number position
  unnamed_stepped {number} {position} name =
      let tile : refuses number position ≡ tile_at limit rules s at end = sym (tile_named limit s at end rules (refused_unmarked rules name) ∙ (rw name)) in
      sym (answer_is limit rules s at end (refuses number position) (stop (refuses number position)) g (omega arith) m (answered limit rules s at end (refuses number position) l tile) refl)
