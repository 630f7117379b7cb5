-- What the functions that judge and write need of the layers below: a body by itself, a magnitude without leading zero bytes, a wrapper's value.
-- Assumes nothing.
use Prim.Native.Nat.{ℕ, zero, suc, ◌-◌, ◌/◌, ◌≤◌, ◌<◌}
use native.Mathlib.Omega.{arith}
use borrow.Author.Tests.{ltb-true, ltb-false, eq-eqb, ne_eqb, not-false}
use mathlib.Core.Path.{◌≡◌, refl, ◌∙◌, sym, ap}
use mathlib.Core.Bool.{Bool, true, false, not, true≢false}
use mathlib.Core.List.{List, [], ◌∷◌}
use lib.ListN.{length, get_or, take, drop, length-drop}
use lib.Seq.{take_all}
use lib.Dec.{ltb, eqb}
use Rattle.std.specs.Int.{w64, to_be_bytes}
use Rattle.numbers.specs.Outcome.{Outcome, refuses, refuse_if}
use Rattle.numbers.proofs.Outcomes.{by_test, inside}
use Rattle.std.specs.Prelude.{Option, Some, None}
use Rattle.numbers.specs.Refusals.{number_of}
use Rattle.numbers.specs.declared.refusal.Reason.{Reason}
use Rattle.numbers.specs.declared.refusal.Reason.TheVariants.{WrapperInWrapper}
use Rattle.numbers.specs.Descriptor.{descriptor_of}
use Rattle.numbers.specs.declared.type_descriptor.Kind.{Kind}
use Rattle.numbers.specs.declared.type_descriptor.Kind.TheVariants.{Value, Null, Pad, Marker, Wrapper, Reserved}
use Rattle.framing.specs.Limits.{out_of_range, limited}
use Rattle.framing.specs.ShortValue.{bare_spans}
use Rattle.values.specs.Scalars.{scalar_of, scalar_in}
use Rattle.framing.specs.Answers.{is_pad, is_wrapper, value_without_annotations, inner_value, value_at, read_value}
use Rattle.framing.proofs.Completeness.{peeked_here}
use Rattle.framing.proofs.Soundness.{here}
use Rattle.bodies.specs.Magnitude.{significant_from}
use Rattle.bodies.proofs.Leading.{Begins, significant_begins}
use Rattle.stepping.specs.declared.cursor.Rules.{Rules}
use Rattle.walking.proofs.Depths.{in_limit, depth_some}
use Rattle.checking.specs.Body.{body_check, limited_body}
use Rattle.encoding.specs.Fields.{big_endian}
use Rattle.writing.specs.Things.{significant}
use Rattle.writing.specs.Answers.{is_container, lent_value}
use Rattle.writing.specs.Private.Inner.{inner_fault}

-- ---- a body by itself, in limits

pub body_limited : (limit room : ℕ) (rules : Rules) (body : List ℕ) → out_of_range limit ≡ false → limited_body limit room rules body ≡ body_check limit room rules body
unfolding limited_body
body_limited limit room rules body h = rw h

-- a container's type has one of the three codes
pub record Contains (type : ℕ) : Type 0 where
  pub low : 11 ≤ type
  pub high : type ≤ 13

pub contains : (type : ℕ) → not (is_container type) ≡ false → Contains type
unfolding is_container
contains type =
    by_test (λ (b : Bool). not b ≡ false → Contains type) (ltb type 11) (λ _ h. absurd (true≢false h)) (λ a h.
    record { low = ltb-false type 11 a; high = omega (arith, ltb-true type 14 (not-false (ltb type 14) h)) })

pub container_below : (type : ℕ) → is_container type ≡ true → type < 14
container_below type h = omega (arith, (contains type (ap not h)).high)

pub ruleset stages = (body_limited, in_limit, depth_some, container_below)

-- ---- a magnitude without leading zero bytes

from_first : (m : List ℕ) (r : ℕ) → r ≤ length m → ((i : ℕ) → i < r → get_or m i 0 ≡ 0) → (r < length m → get_or m r 0 ≡ 0 → ⊥) → drop r m ≡ significant m
unfolding significant
from_first [] zero h z k = refl
from_first [] (suc r) h z k = absurd (omega arith)
from_first (b ∷ bs) zero h z k = rw (ne_eqb b 0 (k (omega arith)))
from_first (b ∷ bs) (suc r) h z k =
    rw (eq-eqb b 0 (z 0 (omega arith)))
    (from_first bs r (omega arith) (λ i l. z (suc i) (omega arith)) (λ l. k (omega arith)))

module _ (m : List ℕ) (r : ℕ) (e : r ≡ significant_from m 0 (length m)) where
  begins : Begins m 0 (length m) (significant_from m 0 (length m))
  begins = significant_begins m 0 (length m) (omega arith) (omega arith)

  pub significant_high : r ≤ length m
  significant_high = omega (arith, begins.high)

  pub significant_part : take (length m - r) (drop r m) ≡ significant m
  significant_part =
      take_all (length m - r) (drop r m) (omega (arith, length-drop r m))
      ∙ from_first m r significant_high (λ i l. begins.zeros i (omega arith) (omega arith)) (λ l. rw e (begins.here (omega arith)))

pub ruleset magnitudes = (significant_high, significant_part)

pub significant_short : (m : List ℕ) → length (significant m) ≤ length m
unfolding significant
significant_short [] = omega arith
significant_short (b ∷ bs) = by_test (λ (l : List ℕ). length l ≤ length (b ∷ bs)) (eqb b 0) (λ _. omega (arith, significant_short bs)) (λ _. omega arith)

-- eight bytes, as the library has them
pub eight_bytes : (n : ℕ) → to_be_bytes w64 n ≡ big_endian 8 n
unfolding big_endian
eight_bytes n = let one : n / 1 ≡ n = omega arith in rw one

-- ---- a wrapper's value by itself

-- a refusal for this reason, if there is one, before anything else
abbrev fault_first : {A : Type 0} → Option Reason → Outcome A → Outcome A
fault_first None o = o
fault_first (Some r) o = refuses (number_of r) 0

faulted : {A : Type 0} (k : Kind) (o : Outcome A) → refuse_if (is_wrapper k) 27 0 (refuse_if (is_pad k) 28 0 o) ≡ fault_first (inner_fault k) o
faulted Value o = refl
faulted Null o = refl
faulted Pad o = refl
faulted Marker o = refl
faulted Wrapper o = refl
faulted Reserved o = refl

no_wrapper : (k : Kind) → None ≡ inner_fault k → is_wrapper k ≡ false
no_wrapper Value h = refl
no_wrapper Null h = refl
no_wrapper Pad h = refl
no_wrapper Marker h = refl
no_wrapper Wrapper h = absurd (let z : ◌≡◌ {A = Option Reason} None (Some WrapperInWrapper) = h in cc)
no_wrapper Reserved h = refl

module _ (value : List ℕ) (some : 0 < length value) where
  lent_is : lent_value value ≡ fault_first (inner_fault (descriptor_of (get_or value 0 0)).kind) (value_without_annotations value 0 (length value) (here value 0))
  unfolding lent_value inner_value
  lent_is = rw (peeked_here value 0 (length value) some (omega arith)) (faulted (here value 0).kind (value_without_annotations value 0 (length value) (here value 0)))

  pub lent_fault : (r : Reason) → Some r ≡ inner_fault (descriptor_of (get_or value 0 0)).kind → refuses (number_of r) 0 ≡ lent_value value
  lent_fault r e = ap (λ (x : Option Reason). fault_first x (value_without_annotations value 0 (length value) (here value 0))) e ∙ sym lent_is

  pub lent-value : (limit : ℕ) → out_of_range limit ≡ false → None ≡ inner_fault (descriptor_of (get_or value 0 0)).kind → limited limit (read_value limit value 0 (length value)) ≡ lent_value value
  unfolding read_value value_at
  lent-value limit g e =
      rw (g, lent_is, ← e, peeked_here value 0 (length value) some (omega arith), no_wrapper (here value 0).kind e)

pub ruleset lent = (lent_fault, lent-value, in_limit)

-- ---- a body that stands by itself

pub placed : (body : List ℕ) (byte : ℕ) → scalar_in body (bare_spans byte 0 0 (length body)) ≡ scalar_of body (bare_spans byte 0 0 (length body))
unfolding scalar_in
placed body byte = rw (inside body 0 (length body) (omega arith) (omega arith))
