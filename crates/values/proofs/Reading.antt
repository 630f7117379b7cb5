-- A value that an entry frames, and the part that a reading of it gives, lie in the slice.
-- Assumes nothing.
use Prim.Native.Nat.{ℕ, ◌-◌, ◌^◌, ◌<◌, ◌≤◌}
use native.Mathlib.Omega.{arith}
use mathlib.Core.Path.{◌≡◌}
use mathlib.Core.Bool.{Bool, not}
use mathlib.Core.List.{List}
use lib.ListN.{length, get_or}
use lib.Dec.{ltb, eqb}
use Rattle.numbers.specs.Outcome.{Outcome, gives}
use Rattle.numbers.proofs.Outcomes.{Each, given, each_refuse, each_pick, each_then, each_map, each_of, refused}
use Rattle.framing.specs.Limits.{out_of_range}
use Rattle.framing.specs.Spans.{Spans}
use Rattle.framing.specs.Answers.{read_value}
use Rattle.framing.proofs.Bounds.{peeked_each, value_each}
use Rattle.bodies.specs.Utf8.{utf8}
use Rattle.bodies.specs.Magnitude.{significant_from}
use Rattle.numbers.specs.Bytes.{part}
use Rattle.numbers.specs.Format.{uint_of}
use Rattle.bodies.specs.Uint.{uint_in}
use Rattle.bodies.proofs.BigEndian.{uint_inside, uint_below}
use Rattle.bodies.proofs.Leading.{significant_begins}
use Rattle.values.specs.Scalars.{value_in, type_of, code_of, Scalar, int, bool_of, positive_of, negative_of, float_of, symbol_of, string_of, typed_of, scalar_of, read_scalar, span_of}

pub record InSlice (s : List ℕ) (v : Spans) : Type 0 where
  pub order : v.body ≤ v.end
  pub within : v.end ≤ length s

pub value_in_slice : (limit : ℕ) (s : List ℕ) (at end : ℕ) → Each (InSlice s) (read_value limit s at end)
unfolding read_value
value_in_slice limit s at end =
    each_then (peeked_each s at end) (λ d b.
    each_map (value_each limit s at end d b.before) (λ v o.
    record { order = o.ended; within = omega (arith, o.within, b.inside) }))

pub value_in_each : (limit : ℕ) (s : List ℕ) (start end at : ℕ) → Each (InSlice s) (value_in limit s start end at)
unfolding value_in
value_in_each limit s start end at =
    each_refuse (out_of_range limit) 68 0 (λ _. each_refuse (ltb at start) 50 0 (λ _. value_in_slice limit s at end))

module _ (limit : ℕ) (s : List ℕ) (start end at : ℕ) (v : Spans) where
  pub framed_order : value_in limit s start end at ≡ gives v → v.body ≤ v.end
  framed_order e = (each_of (value_in_each limit s start end at) e).order

  pub framed_within : value_in limit s start end at ≡ gives v → v.end ≤ length s
  framed_within e = (each_of (value_in_each limit s start end at) e).within

-- a reading's span
pub record SpanIn (s : List ℕ) (x : Scalar) : Type 0 where
  pub order : (span_of (gives x)).start ≤ (span_of (gives x)).end
  pub within : (span_of (gives x)).end ≤ length s

module _ (s : List ℕ) (v : Spans) (i : InSlice s v) where
  magnitude : (b : Bool) → SpanIn s (int b (significant_from s v.body v.end) v.end)
  magnitude b = record { order = (significant_begins s v.body v.end i.order i.within).high; within = i.within }

  pub scalar_each : Each (SpanIn s) (scalar_of s v)
  unfolding scalar_of typed_of bool_of positive_of negative_of float_of symbol_of string_of
  scalar_each =
      each_pick (eqb (code_of v) 15) (λ _. given (record { order = omega arith; within = omega arith })) (λ _.
      each_pick (eqb (type_of v) 1) (λ _. each_refuse (ltb 1 (code_of v)) 33 v.descriptor (λ _. given (record { order = omega arith; within = omega arith }))) (λ _.
      each_pick (eqb (type_of v) 2) (λ _. given (magnitude _)) (λ _.
      each_pick (eqb (type_of v) 3) (λ _. each_refuse (eqb (significant_from s v.body v.end) v.end) 34 v.descriptor (λ _. given (magnitude _))) (λ _.
      each_pick (eqb (type_of v) 4)
      (λ _.
      each_pick (eqb (v.end - v.body) 0) (λ _. given (record { order = omega arith; within = omega arith })) (λ _.
      each_pick (eqb (v.end - v.body) 4) (λ _. given (record { order = omega arith; within = omega arith })) (λ _. given (record { order = omega arith; within = omega arith }))))
      (λ _.
      each_pick (eqb (type_of v) 5) (λ _. given (record { order = i.order; within = i.within })) (λ _.
      each_pick (eqb (type_of v) 6) (λ _. given (record { order = i.order; within = i.within })) (λ _.
      each_pick (eqb (type_of v) 7) (λ _. each_refuse (ltb 8 (v.end - v.body)) 35 v.descriptor (λ _. given (record { order = omega arith; within = omega arith }))) (λ _.
      each_pick (eqb (type_of v) 8) (λ _. each_refuse (not (utf8 s v.body v.end)) 36 v.descriptor (λ _. given (record { order = i.order; within = i.within }))) (λ _.
      each_pick (eqb (type_of v) 9) (λ _. given (record { order = i.order; within = i.within })) (λ _.
      each_pick (eqb (type_of v) 10) (λ _. given (record { order = i.order; within = i.within })) (λ _.
      given (record { order = omega arith; within = omega arith }))))))))))))

read_each : (limit : ℕ) (s : List ℕ) (start end at : ℕ) → Each (SpanIn s) (read_scalar limit s start end at)
unfolding read_scalar
read_each limit s start end at = each_then (value_in_each limit s start end at) (λ v i. scalar_each s v i)

-- whatever is answered, its span is one of the slice
each_span : (s : List ℕ) {o : Outcome Scalar} → Each (SpanIn s) o → ((span_of o).start ≤ (span_of o).end) × ((span_of o).end ≤ length s)
each_span s (given i) = (i.order, i.within)
each_span s refused = (omega arith, omega arith)

module _ (limit : ℕ) (s : List ℕ) (start end at : ℕ) where
  pub span_order : (span_of (read_scalar limit s start end at)).start ≤ (span_of (read_scalar limit s start end at)).end
  span_order = (each_span s (read_each limit s start end at)).0

  pub span_within : (span_of (read_scalar limit s start end at)).end ≤ length s
  span_within = (each_span s (read_each limit s start end at)).1

-- four bytes are a number below 2 ^ 32
pub four_fit : (s : List ℕ) (at end : ℕ) → ((i : ℕ) → get_or s i 0 < 256) → end - at ≡ 4 → at ≤ end → end ≤ length s → uint_in s at end < 2 ^ 32
four_fit s at end bytes four order within =
    let below : uint_of (part s at end) < 256 ^ (end - at) = uint_below s bytes at end order within in
    rw (uint_inside s at end order within (omega arith)) (rw four at below)
