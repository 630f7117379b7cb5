-- `count` meets its contract: each return has counted all that there is, and each turn keeps what is counted.
use Prim.Native.Nat.{◌+◌, ◌≤◌}
use native.Mathlib.Omega.{arith}
use mathlib.Core.Path.{◌≡◌, ◌∙◌, sym, ap}
use lib.ListN.{get_or}
use Rattle.numbers.specs.Outcome.{gives}
use Rattle.numbers.specs.Answers.{Unsigned}
use Rattle.numbers.proofs.Outcomes.{inside_end}
use Rattle.framing.specs.Read.{spans_of, short_value_read}
use Rattle.framing.specs.ShortValue.{short_value}
use Rattle.framing.proofs.ShortValues.{short_bounds}
use Rattle.stepping.specs.Names.{name_at, item_by}
use Rattle.stepping.specs.Read.{places_of, item_read, name_of, named_read}
use Rattle.walking.specs.Calls.{end_at, calls, items_in}
use Rattle.walking.specs.Private.State.{state_at}
use Rattle.walking.proofs.Depths.{depth_room}
use Rattle.walking.proofs.Seeking.{handed}
use Rattle.walking.proofs.Counting.{named_item, after_named, after_moved}
use Rattle.walking.proofs.Turns.{Counted, went, unnamed_counted, name_in_slice, refused_counted, over_counted, over_risen}
use Rattle.std.specs.Prelude.{Ok}
use borrow.Author.Rules.{rules}
use Rattle.walking.proofs.Meeting.{short_here, named_here}
use Rattle.walking.proofs.walk.Walk.count.Goals as goal
use Rattle.walking.proofs.walk.Walk.count.Goals.{Joined-short_value, in-Some, in-None+in-Ok-item_from+in_default-item}

pub returns-in_default : goal.returns-in_default
returns-in_default c = search (rules, unnamed_counted c.loop-count.invariant c.if-limits-depth.false c.if-place.false)

pub bounds-s-name : goal.bounds-s-name
bounds-s-name c = grind (arith, name_in_slice c.loop-count.invariant c.if-limits-depth.false c.if-place.false)

pub overflow_add-past : goal.overflow_add-past
overflow_add-past c =
    let w = state_at c.loop-count.self c.loop-count.place in
    let n = c.in-Ok.name.next in
    let e = sym (c.short_value.ensures 0) ∙ ap (short_value_read (get_or c.args.s.now n 0) n) c.in-Some.is in
    omega (arith, (short_bounds 0 c.args.s.now n (end_at w w.depth) e).within, inside_end c.args.s.now w.at (end_at w w.depth) (sym c.outside.ensures ∙ c.if-outside.false))

pub returns-in_default-item_from : goal.returns-in_default-item_from
returns-in_default-item_from c =
    refused_counted c.loop-count.invariant c.if-limits-depth.false c.if-place.false (sym c.outside.ensures ∙ c.if-outside.false) c.rules_at-rules.ensures c.if-at-end.false c.read_name.ensures c.in-Ok.is
    c.item_from.ensures c.in_default-item_from.is

pub loop-count-preserved-in-End : goal.loop-count-preserved-in-End
loop-count-preserved-in-End c =
    over_risen c.loop-count.invariant c.if-limits-depth.false c.if-place.false (sym c.outside.ensures ∙ c.if-outside.false) c.rules_at-rules.ensures c.if-at-end.false c.read_name.ensures c.in-Ok.is
    c.item_from.ensures _ (c.in-Ok-item_from.is ∙ ap Ok c.in-End.is) c.if-depth-gt0.true (ap (state_at c.loop-count.self) c.new-place-in-End.ensures)

pub returns-in-End-2 : goal.returns-in-End-2
returns-in-End-2 c =
    over_counted c.loop-count.invariant c.if-limits-depth.false c.if-place.false (sym c.outside.ensures ∙ c.if-outside.false) c.rules_at-rules.ensures c.if-at-end.false c.read_name.ensures c.in-Ok.is
    c.item_from.ensures (c.in-Ok-item_from.is ∙ ap Ok c.in-End-2.is) (omega (arith, c.if-depth-gt0.false))

-- behind what is handed out there is one less to count
turned : (c : Joined-short_value) → let w = state_at c.match-short_value.self c.match-short_value.place in Counted c.args.limits c.args.most (c.loop-count.count + 1) (items_in (calls c.args.limits.bytes c.args.limits.depth c.args.most c.args.s.now c.args.self.now)) c.args.s.now w × (w.depth ≤ c.args.limits.depth)
turned c =
    let l = c.loop-count in
    let p = l.place in
    let w = state_at l.self p in
    let deepest = c.args.limits.depth in
    let rules = c.rules_at-rules.result in
    let o = sym c.outside.ensures ∙ c.if-outside.false in
    let u : Unsigned = name_of c.in-Ok.name in
    let n : name_at rules c.args.s.now w.at (end_at w w.depth) ≡ gives u = sym c.read_name.ensures ∙ ap named_read c.in-Ok.is in
    elim c.match-short_value.branch [
      | in-Some b ↦
          let v = spans_of b.bare_value-value.result in
          let i = gives (item_by rules w.at u.value v) in
          let h = named_item rules w.at u.value v in
          let e = sym (c.short_value.ensures c.args.limits.bytes) ∙ ap (short_value_read (get_or c.args.s.now u.next 0) u.next) b.in-Some.is ∙ ap short_value (sym b.bare_value-value.ensures) in
          went l.invariant c.if-limits-depth.false c.if-place.false i _ c.loop-count-test.true h
          (short_here c.args.limits c.args.s.now w rules c.rules_at-rules.ensures o c.if-at-end.false u n v e)
          (rw (b.self-is, b.place-is) (b.pass_value-place.ensures ∙ sym (after_named deepest l.self w.depth rules w.at u.value v) ∙ after_moved deepest l.self p.depth p.at p.deep w.depth i h))
      | in-None+in-Ok-item_from+in_default-item b ↦
          let i = gives (places_of b.in-Ok-item_from.item) in
          let h = handed b.in-Ok-item_from.item b.in_default-item.not-End in
          went l.invariant c.if-limits-depth.false c.if-place.false i _ c.loop-count-test.true h
          (named_here c.args.limits c.args.s.now w rules c.rules_at-rules.ensures o c.if-at-end.false u n b.item_from.ensures ∙ ap item_read b.in-Ok-item_from.is)
          (rw (b.self-is, b.place-is) (b.pass_item-place.ensures ∙ after_moved deepest l.self p.depth p.at p.deep w.depth i h))
    ]

pub loop-count-smaller : goal.loop-count-smaller
loop-count-smaller c =
    omega (arith, c.loop-count-test.true, (turned c).1, depth_room _ _ c.args.limits.in_range)

pub loop-count-preserved : goal.loop-count-preserved
loop-count-preserved c = (turned c).0
