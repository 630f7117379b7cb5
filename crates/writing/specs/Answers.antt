-- The change request A.13, "Write values": what writing a thing into a lent buffer answers, and what it leaves there. The tests stand in the paper's order. What
-- is judged are the lent bytes, each by itself, in the order in which A.5 reads the map that they are to be: so a position is "counted in the lent bytes then
-- read", "and 0 where the reader names a descriptor still to be written".
-- Assumes nothing.
use Rattle.std.specs.Prelude.{ℕ, ◌-◌, ◌*◌, Bool, true, false, not, List, ◌++◌, length, drop, ltb, eqb}
use Rattle.numbers.specs.Outcome.{Outcome, gives, refuses, pick, refuse_if, and_then}
use Rattle.numbers.specs.Answers.{most_bytes}
use Rattle.framing.specs.Spans.{Spans}
use Rattle.framing.specs.Answers.{peeked_descriptor, short_timestamp, inner_value}
use Rattle.framing.specs.ShortValue.{bare_spans}
use Rattle.stepping.specs.declared.cursor.Rules.{Rules}
use Rattle.stepping.specs.declared.cursor.Rules.TheVariants.{Sequence, Fields}
use Rattle.walking.specs.Walk.{limits_out}
use Rattle.checking.specs.Reading.{Done, done, read_ids, read_content}
use Rattle.checking.specs.Body.{body_check}
use Rattle.encoding.specs.Fields.{var_uint_size}
use Rattle.encoding.specs.Heads.{wrapped_bytes}
use Rattle.writing.specs.Things.{Thing, null, bool, int, float, symbol, scalar, pad, container, wrapper, significant, pad_field, written}

-- ---- 50: a type code that is none of the thing's

-- "Decimals and timestamps are given as bodies", and so are strings, clobs and blobs
unfoldable pub has_body : ℕ → Bool
has_body type = pick (ltb type 5) false (pick (eqb type 7) false (ltb type 11))

-- a list's, a sexp's or a struct's
unfoldable pub is_container : ℕ → Bool
is_container type = pick (ltb type 11) false (ltb type 14)

abbrev pub outside : Thing → Bool
outside (null type) = ltb 13 type
outside (bool value) = false
outside (int negative magnitude) = false
outside (float bits) = false
outside (symbol id) = false
outside (scalar type body) = not (has_body type)
outside (pad size) = false
outside (container type body) = not (is_container type)
outside (wrapper annotations value) = false

-- ---- 71: "a pad of size 0 or a length past 9 VarUInt bytes"

unfoldable pub past_nine : ℕ → Bool
past_nine n = ltb most_bytes (var_uint_size n)

unfoldable pub no_pad : ℕ → Bool
no_pad size = pick (eqb size 0) true (ltb most_bytes (pad_field size))

abbrev pub too_long : Thing → Bool
too_long (null type) = false
too_long (bool value) = false
too_long (int negative magnitude) = past_nine (length (significant magnitude))
too_long (float bits) = false
too_long (symbol id) = false
too_long (scalar type body) = past_nine (length body)
too_long (pad size) = no_pad size
too_long (container type body) = past_nine (length body)
too_long (wrapper annotations value) = past_nine (length (wrapped_bytes annotations value))

-- ---- "Where A.5 would refuse what is to be written, taken as a map, its number is given"

-- 34 "a negative int of zero"
unfoldable pub judged_int : Bool → List ℕ → Outcome Done
judged_int negative magnitude =
    refuse_if (pick negative (eqb (length (significant magnitude)) 0) false) 34 0 (gives done)

-- 31 "a non-null timestamp under 2 bytes", then its reading: the descriptor counts as 0, and so does the body's first byte
unfoldable pub judged_scalar : ℕ → List ℕ → Outcome Done
judged_scalar type body =
    refuse_if (short_timestamp type 0 (length body)) 31 0 (read_content body (bare_spans (type * 16) 0 0 (length body)))

-- the rules of a container's body: a struct's is of fields
abbrev pub rules_of : ℕ → Rules
rules_of type = pick (eqb type 13) Fields Sequence

-- the container is at the depth 0, what is in its body at 1
abbrev pub body_room : ℕ → ℕ
body_room deepest = deepest - 1

unfoldable pub judged_container : ℕ → ℕ → ℕ → List ℕ → Outcome Done
judged_container limit deepest type body = body_check limit (body_room deepest) (rules_of type) body

-- the wrapper's value where it stands by itself: 27, 28, 22 and its own tests
unfoldable pub lent_value : List ℕ → Outcome Spans
lent_value value = and_then (peeked_descriptor value 0 (length value)) (inner_value value 0 (length value))

-- 29 "a value whose length differs from what its wrapper says", which is what is lent; then each annotation ID; then the value's scalar or its inside
abbrev pub then_value : ℕ → ℕ → List ℕ → Done → Outcome Done
then_value limit deepest value done = body_check limit deepest Sequence value

unfoldable pub judged_parts : ℕ → ℕ → List ℕ → List ℕ → Spans → Outcome Done
judged_parts limit deepest annotations value v =
    refuse_if (not (eqb v.end (length value))) 29 0
    (and_then (read_ids annotations 0 (length annotations)) (then_value limit deepest value))

-- 23 "an annotations' length of 0", 25 "a wrapper with no room for a value", 26 "annotations of more bytes than the limit"
unfoldable pub judged_wrapper : ℕ → ℕ → List ℕ → List ℕ → Outcome Done
judged_wrapper limit deepest annotations value =
    refuse_if (eqb (length annotations) 0) 23 0
    (refuse_if (eqb (length value) 0) 25 0
    (refuse_if (ltb limit (length annotations)) 26 0
    (and_then (lent_value value) (judged_parts limit deepest annotations value))))

abbrev pub judged : ℕ → ℕ → Thing → Outcome Done
judged limit deepest (null type) = gives done
judged limit deepest (bool value) = gives done
judged limit deepest (int negative magnitude) = judged_int negative magnitude
judged limit deepest (float bits) = gives done
judged limit deepest (symbol id) = gives done
judged limit deepest (scalar type body) = judged_scalar type body
judged limit deepest (pad size) = gives done
judged limit deepest (container type body) = judged_container limit deepest type body
judged limit deepest (wrapper annotations value) = judged_wrapper limit deepest annotations value

-- ---- the answer

-- "70 the lent buffer too short, tested last, position the length needed"; "otherwise the answer is the length written"
abbrev pub fitted : ℕ → ℕ → Done → Outcome ℕ
fitted room size done = refuse_if (ltb room size) 70 size (gives size)

-- 50 of the arguments, "71 .. tested first, position 0", the reader's, "70 .. tested last"
unfoldable pub write_of : ℕ → ℕ → Thing → ℕ → Outcome ℕ
write_of limit deepest thing room =
    refuse_if (outside thing) 50 0
    (refuse_if (too_long thing) 71 0
    (and_then (judged limit deepest thing) (fitted room (length (written thing)))))

-- where limits are given, 68 for those that are none comes before all else
unfoldable pub limited_write : ℕ → ℕ → Thing → ℕ → Outcome ℕ
limited_write limit deepest thing room = refuse_if (limits_out limit deepest) 68 0 (write_of limit deepest thing room)

-- "Both leave the buffer untouched, as do the reader's. Otherwise .. further bytes stay."
abbrev pub buffer_after : List ℕ → List ℕ → Outcome ℕ → List ℕ
buffer_after bytes old (gives n) = bytes ++ drop n old
buffer_after bytes old (refuses number position) = old
