-- Lengths that a VarUInt of nine bytes tells, and what is stored at a buffer's start.
-- Assumes nothing.
use Prim.Native.Nat.{ℕ, ◌+◌, ◌^◌, ◌≤◌, ◌<◌}
use native.Mathlib.Omega.{arith}
use borrow.Author.Tests.{ltb-true, ltb-false, lt-ltb, le-ltb}
use mathlib.Core.Path.{◌≡◌, ◌∙◌, sym, ap}
use mathlib.Core.Bool.{true, false}
use mathlib.Core.List.{List, ◌++◌}
use lib.ListN.{length, drop}
use lib.Seq.{sets, sets-eq}
use lib.Dec.{ltb}
use Rattle.numbers.specs.Outcome.{gives, refuses}
use Rattle.numbers.proofs.Outcomes.{by_case}
use Rattle.checking.specs.Reading.{done}
use Rattle.encoding.specs.Fields.{var_uint_size, var_uint_bytes}
use Rattle.encoding.specs.Heads.{head_bytes, head_size, typed_bytes, wrapped_bytes, wrapper_bytes}
use Rattle.encoding.proofs.VarUInts.{var-uint-sized, var_uint_past, bytes_size}
use Rattle.encoding.proofs.Heads.{head_length, head_few, typed_length, wrapped_length, wrapper_length}
use Rattle.encoding.proofs.Stores.{sets_more}
use Rattle.writing.specs.Answers.{past_nine, fitted}

pub not_past : (n : ℕ) → past_nine n ≡ false → n < 2 ^ 63
unfolding past_nine
not_past n h =
    by_case (ltb n (2 ^ 63)) (λ e. ltb-true n (2 ^ 63) e)
    (λ e. absurd (omega (arith, ltb-false 9 (var_uint_size n) h, var_uint_past n (ltb-false n (2 ^ 63) e))))

pub past : (n : ℕ) → 2 ^ 63 ≤ n → past_nine n ≡ true
unfolding past_nine
past n h = lt-ltb 9 (var_uint_size n) (var_uint_past n h)

pub told : (n : ℕ) → n < 2 ^ 63 → past_nine n ≡ false
unfolding past_nine
told n h = le-ltb 9 (var_uint_size n) (var-uint-sized n h).few

-- 70 last
pub too_short : (room size size' : ℕ) → size ≡ size' → room < size → refuses 70 size ≡ fitted room size' done
too_short room size size' e h = rw (← e, lt-ltb room size h)

pub fits : (room size size' : ℕ) → size ≡ size' → size ≤ room → gives size ≡ fitted room size' done
fits room size size' e h = rw (← e, le-ltb room size h)

-- what is stored at the start
pub stored : (bytes old : List ℕ) (n : ℕ) → n ≡ length bytes → n ≤ length old → sets old 0 bytes ≡ bytes ++ drop n old
stored bytes old n e h =
    let m : 0 + length bytes ≡ n = omega arith in
    sets-eq bytes old 0 (omega arith) ∙ ap (λ (k : ℕ). bytes ++ drop k old) m

pub typed_stored : (type : ℕ) (body old : List ℕ) (head : ℕ) → head ≡ head_size (length body) → head + length body ≤ length old → sets (sets old 0 (head_bytes type (length body))) head body ≡ typed_bytes type body ++ drop (head + length body) old
unfolding typed_bytes
typed_stored type body old head e h =
    let m : 0 + length (head_bytes type (length body)) ≡ head = omega (arith, head_length type (length body)) in
    sym
    (sets_more old 0 (head_bytes type (length body)) body
    ∙ ap (λ (k : ℕ). sets (sets old 0 (head_bytes type (length body))) k body) m)
    ∙ stored (head_bytes type (length body) ++ body) old (head + length body) (ap (λ (k : ℕ). k + length body) e ∙ sym (typed_length type body)) h

pub wrapper_stored : (annotations value old : List ℕ) (head field n : ℕ) → field ≡ var_uint_size (length annotations) → n ≡ length (wrapped_bytes annotations value) → head ≡ head_size n → head + n ≤ length old → sets (sets (sets (sets old 0 (head_bytes 14 n)) head (var_uint_bytes (length annotations))) (head + field) annotations) (head + field + length annotations) value ≡ wrapper_bytes annotations value ++ drop (head + n) old
unfolding wrapper_bytes wrapped_bytes
wrapper_stored annotations value old head field n f e h room =
    let v : List ℕ = var_uint_bytes (length annotations) in
    let start : List ℕ = sets old 0 (head_bytes 14 n) in
    let p : head + length v ≡ head + field = omega (arith, bytes_size (length annotations)) in
    let m : head ≡ head_size (length (wrapped_bytes annotations value)) = h ∙ ap head_size e in
    ap (λ (l : List ℕ). sets l (head + field + length annotations) value) (ap (λ (k : ℕ). sets (sets start head v) k annotations) (sym p))
    ∙ ap (λ (k : ℕ). sets (sets (sets start head v) (head + length v) annotations) (k + length annotations) value) (sym p)
    ∙ sym (sets_more (sets start head v) (head + length v) annotations value)
    ∙ sym (sets_more start head v (annotations ++ value))
    ∙ ap (λ (k : ℕ). sets (sets old 0 (head_bytes 14 k)) head (wrapped_bytes annotations value)) e
    ∙ typed_stored 14 (wrapped_bytes annotations value) old head m (omega arith)
    ∙ ap (λ (k : ℕ). typed_bytes 14 (wrapped_bytes annotations value) ++ drop (head + k) old) (sym e)

pub ruleset typed_put = (not_past, head_few, typed_length, typed_stored)

pub ruleset wrapper_put = (not_past, head_few, wrapped_length, wrapper_length, wrapper_stored)
