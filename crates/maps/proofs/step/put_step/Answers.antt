-- `put_step` meets its contract: the end, a short value behind its name, or what else stands there, is what the step answers, and its words are put.
use native.Mathlib.Omega.{arith}
use Prim.Native.Nat.{◌+◌}
use mathlib.Core.Path.{◌≡◌, refl, ◌∙◌, sym, ap}
use lib.ListN.{get_or}
use Rattle.numbers.specs.Outcome.{gives}
use Rattle.framing.specs.Spans.{Spans}
use Rattle.framing.specs.Answers.{read_value}
use Rattle.framing.specs.ShortValue.{short_value, bare_spans, short_value_of}
use Rattle.framing.specs.Read.{short_value_read}
use Rattle.framing.proofs.ShortValues.{short_bounds}
use Rattle.stepping.specs.Names.{name_at}
use Rattle.stepping.specs.Read.{name_of, named_read}
use Rattle.stepping.proofs.Plain.{NameIn, name_in, named_stepped, short_stepped, unnamed_stepped}
use Rattle.records.specs.Buffer.{record_in}
use Rattle.records.specs.Words.{words, bare_words}
use Rattle.records.proofs.BareWords.{bare-words}
use Rattle.numbers.proofs.Outcomes.{in_part}
use Rattle.maps.specs.Put.{put_by}
use Rattle.maps.proofs.Putting.{value_leaves, put_at, put_over}
use Rattle.maps.proofs.step.put_step.Goals as goal
use Rattle.maps.proofs.step.put_step.Goals.{In-Ok, In-Some}

-- the name that was read, and where it ends
named : (c : In-Ok) → let a = c.args in name_at a.rules a.map.now a.at a.end ≡ gives (name_of c.in-Ok.name)
named c = sym c.read_name.ensures ∙ ap named_read c.in-Ok.is

ended : (c : In-Ok) → let a = c.args in NameIn a.at a.end (name_of c.in-Ok.name)
ended c =
    let a = c.args in
    name_in a.rules a.map.now a.at a.end (omega (arith, c.if-end-at.false)) (name_of c.in-Ok.name) (named c)

-- the short value that was read behind it
abbrev value : In-Some → Spans
value b =
    let n = b.in-Ok.name.next in
    bare_spans (get_or b.args.map.now n 0) n b.in-Some.length.body (b.in-Some.length.body + b.in-Some.length.size)

short : (b : In-Some) → let a = b.args in short_value_of b.in-Ok.name.next (read_value a.limit a.map.now b.in-Ok.name.next a.end) ≡ short_value (value b)
short b =
    let a = b.args in
    let n = b.in-Ok.name.next in
    sym (b.short_value.ensures a.limit) ∙ ap (short_value_read (get_or a.map.now n 0) n) b.in-Some.is

pub overflow_add-past : goal.overflow_add-past
overflow_add-past c =
    let here = goal.at.overflow_add-past c in
    let a = c.args in
    omega (arith, (short_bounds a.limit a.map.now c.in-Ok.name.next a.end (short here.In-Some)).within, (in_part _ _ _ c.outside.ensures c.if-outside.false).1)

pub bounds-map-name : goal.bounds-map-name
bounds-map-name c =
    omega (arith, (ended (goal.at.bounds-map-name c).In-Ok).high, (in_part _ _ _ c.outside.ensures c.if-outside.false).1)

pub returns-in-Some : goal.returns-in-Some
returns-in-Some c =
    let here = goal.at.returns-in-Some c in
    let a = c.args in
    let s = a.map.now in
    let n = name_of c.in-Ok.name in
    let o = short_stepped a.limit a.rules s a.at a.end (sym c.out_of_range.ensures ∙ c.if-out_of_range.false) (omega (arith, c.if-end-at.false)) (in_part _ _ _ c.outside.ensures c.if-outside.false).1 n (named here.In-Ok) (value here.In-Some) (short here.In-Some) in
    let body = c.in-Some.length.body in
    let size = c.in-Some.length.size in
    let e : c.bare_words.result ≡ bare_words a.rules a.at n.value (get_or s n.next 0) n.next body (body + size) size = c.bare_words.ensures in
    let f = bare-words s a.at a.end (get_or s n.next 0) body size a.rules n (named here.In-Ok) in
    put_at a.out.now (sym o) (e ∙ f) c.put_record-in-Some.ensures (value_leaves a.rules a.at n.value (value here.In-Some))

-- whatever else stands behind the name that was read
pub returns-in_default : goal.returns-in_default
returns-in_default c =
    let here = goal.at.returns-in_default c in
    let a = c.args in
    let e = named_stepped a.limit a.rules a.map.now a.at a.end (name_of c.in-Ok.name) (named here.In-Ok) in
    record { value = c.put_long.ensures.value ∙ ap (λ x. put_by x a.out.now) e; out_after = c.put_long.ensures.out_after ∙ ap (λ x. record_in (words x) a.out.now) e }

-- a name that is refused
pub returns-in-Err : goal.returns-in-Err
returns-in-Err c =
    let a = c.args in
    let o = unnamed_stepped a.limit a.rules a.map.now a.at a.end (sym c.out_of_range.ensures ∙ c.if-out_of_range.false) (omega (arith, c.if-end-at.false)) (in_part _ _ _ c.outside.ensures c.if-outside.false).1 (sym c.read_name.ensures ∙ ap named_read c.in-Err.is) in
    put_over a.out.now (sym o) c.refused_words-in-Err.ensures c.put_record-in-Err.ensures refl
