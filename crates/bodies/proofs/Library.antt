-- What is well-formed by specs/Utf8.antt is UTF-8 by the library: either is the encoding of a list of scalar values.
-- Assumes nothing.
use Prim.Native.Nat.{ℕ, ◌≤◌, ◌<◌}
use native.Mathlib.Omega.{arith}
use mathlib.Core.Path.{◌≡◌, refl, ◌∙◌, sym, ap₂}
use mathlib.Core.Logic.{⊎_elim, inl, inr}
use mathlib.Core.Bool.{Bool, true, false, true≢false, ◌&&◌}
use mathlib.Core.List.{List, [], ◌∷◌, ◌++◌}
use lib.Utf8.{scalar, scalars, scalar_cases, low_scalar, encodes, encode as code}
use Rattle.std.specs.Prelude.{Result, Ok, Err, MatchResult}
use Rattle.std.specs.Result.{is_ok}
use Rattle.std.specs.Str.{IsUtf8}
use borrow.Author.Tests.{le-leb, lt-ltb, le-ltb}
use Rattle.bodies.specs.Utf8.{well_formed, ScalarValue, ScalarValues, no_more, also, encode, encoded}
use Rattle.bodies.proofs.Rows.{by_less}
use Rattle.bodies.proofs.Encoding.{encode_one, encode_two, encode_three, encode_four, encoded_accepted, accepted_encoded}

same_code : (c : ℕ) → code c ≡ encode c
unfolding code
same_code c =
    by_less c 0x80 (λ h. rw (lt-ltb c 0x80 h, encode_one c h)) (λ h.
    by_less c 0x800 (λ k. rw (le-ltb c 0x80 h, lt-ltb c 0x800 k, encode_two c h (omega arith))) (λ k.
    by_less c 0x10000 (λ l. rw (le-ltb c 0x80 h, le-ltb c 0x800 k, lt-ltb c 0x10000 l, encode_three c k (omega arith)))
    (λ l. rw (le-ltb c 0x80 h, le-ltb c 0x800 k, le-ltb c 0x10000 l, encode_four c l))))

same_codes : (cs : List ℕ) → encodes cs ≡ encoded cs
unfolding encoded
same_codes [] = refl
same_codes (c ∷ cs) = ap₂ ◌++◌ (same_code c) (same_codes cs)

both : (x y : Bool) → (x && y) ≡ true → (x ≡ true) × (y ≡ true)
both true y e = (refl, e)
both false y e = absurd (true≢false (sym e))

high_scalar : (c : ℕ) → 0xE000 ≤ c → c < 0x110000 → scalar c ≡ true
high_scalar c h k = rw (le-ltb c 0xD800 (omega arith), le-leb 0xE000 c h, lt-ltb c 0x110000 k)

scalar_by : (c : ℕ) → ScalarValue c → scalar c ≡ true
scalar_by c v =
    ⊎_elim (λ (a : c ≤ 0xD7FF). low_scalar c (omega arith)) (λ (a : (0xE000 ≤ c) × (c ≤ 0x10FFFF)). high_scalar c a.0 (omega (arith, a.1))) v

scalars_by : (cs : List ℕ) → ScalarValues cs → scalars cs ≡ true
scalars_by [] v = refl
scalars_by (c ∷ cs) (also v vs) = ap₂ ◌&&◌ (scalar_by c v) (scalars_by cs vs)

value_by : (c : ℕ) → scalar c ≡ true → ScalarValue c
value_by c e =
    ⊎_elim (λ (a : c < 55296). inl (omega arith)) (λ (a : (57344 ≤ c) × (c < 1114112)). inr (a.0, omega (arith, a.1))) (scalar_cases c e)

values_by : (cs : List ℕ) → scalars cs ≡ true → ScalarValues cs
values_by [] e = no_more
values_by (c ∷ cs) e =
    let h = both (scalar c) (scalars cs) e in
    also (value_by c h.0) (values_by cs h.1)

well_by : (bs : List ℕ) → IsUtf8 bs → true ≡ well_formed bs
well_by bs u =
    let e : encoded u.0 ≡ bs = sym (same_codes u.0) ∙ u.1.1 in
    rw (← e) (sym (encoded_accepted u.0 (values_by u.0 u.1.0)))

utf8_by : (bs : List ℕ) → well_formed bs ≡ true → IsUtf8 bs
utf8_by bs h =
    let r = accepted_encoded bs h in
    (r.0, (scalars_by r.0 r.1, same_codes r.0 ∙ r.2))

refuted : (t : Bool) → ¬ (t ≡ true) → false ≡ t
refuted true f = absurd (f refl)
refuted false f = refl

-- what `from_utf8` answers for these bytes
pub is_ok_well : {T E : Type 0} (P : T → Type 0) (Q : E → Type 0) (bs : List ℕ) (r : Result T E) → MatchResult r (λ t. P t × IsUtf8 bs) (λ e. ¬ (IsUtf8 bs) × Q e) → is_ok r ≡ well_formed bs
is_ok_well P Q bs (Ok t) m = well_by bs m.1
is_ok_well P Q bs (Err e) m = refuted (well_formed bs) (λ h. m.0 (utf8_by bs h))
