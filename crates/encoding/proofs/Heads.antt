-- Headers and wrappers as they are written: no field with that length is shorter, and wherever their bytes stand they are the value's.
-- Assumes nothing.
use Prim.Native.Nat.{ℕ, ◌+◌, ◌-◌, ◌*◌, ◌/◌, ◌%◌, ◌^◌, ◌≤◌, ◌<◌}
use native.Mathlib.Omega.{arith}
use mathlib.Core.Path.{◌≡◌, refl, ◌∙◌, sym, ap, subst}
use mathlib.Core.Bool.{true, false}
use mathlib.Core.Logic.{inl, inr, ⊎_elim}
use mathlib.Core.List.{List, [], ◌∷◌, ◌++◌}
use lib.ListN.{length, get_or, length-append}
use lib.Dec.{ltb}
use borrow.Author.Tests.{ltb-true, ltb-false, lt-ltb, le-ltb}
use Rattle.numbers.specs.Outcome.{pick}
use Rattle.numbers.specs.Bytes.{part}
use Rattle.numbers.specs.Format.{VarBytes, var_uint_of, NumberAt}
use Rattle.numbers.proofs.Outcomes.{by_test, by_case}
use Rattle.numbers.proofs.Parts.{part_length}
use Rattle.framing.specs.Format.{type_at, code_at, CodeLength, short, long, ValueLength, coded, typed, Legal}
use Rattle.encoding.specs.Fields.{var_uint_size, var_uint_bytes}
use Rattle.encoding.specs.Heads.{head_code, head_byte, head_bytes, head_size, typed_bytes, wrapped_bytes, wrapper_bytes}
use Rattle.encoding.specs.Meaning.{Sized, HeadShortest, HeadGrows, StandsAt, Writable, TypedBack, WrapperBack}
use Rattle.encoding.proofs.VarUInts.{bytes_size, var-uint-sized, var-uint-shortest, var_uint_grows}
use Rattle.encoding.proofs.Standing.{stands_first, stands_rest, stands_byte, stands_next}

-- ---- sizes

pub head_length : (type n : ℕ) → length (head_bytes type n) ≡ head_size n
unfolding head_bytes head_size
head_length type n = by_case (ltb n 14) (λ e. rw e) (λ e. rw (e, bytes_size n) (omega arith))

pub head_short : (n : ℕ) → n < 14 → head_size n ≡ 1
unfolding head_size
head_short n h = rw (lt-ltb n 14 h)

pub head_long : (n : ℕ) → 14 ≤ n → head_size n ≡ 1 + var_uint_size n
unfolding head_size
head_long n h = rw (le-ltb n 14 h)

pub bytes_short : (type n : ℕ) → n < 14 → head_bytes type n ≡ (type * 16 + n) ∷ []
unfolding head_bytes head_byte head_code
bytes_short type n h = rw (lt-ltb n 14 h)

pub bytes_long : (type n : ℕ) → 14 ≤ n → head_bytes type n ≡ (type * 16 + 14) ∷ var_uint_bytes n
unfolding head_bytes head_byte head_code
bytes_long type n h = rw (le-ltb n 14 h)

pub head_some : (n : ℕ) → 1 ≤ head_size n
unfolding head_size
head_some n = by_test (λ (x : ℕ). 1 ≤ x) (ltb n 14) (λ _. omega arith) (λ _. omega arith)

pub head_few : (n : ℕ) → n < 2 ^ 63 → head_size n ≤ 1 + 9
unfolding head_size
head_few n h = by_test (λ (x : ℕ). x ≤ 1 + 9) (ltb n 14) (λ _. omega arith) (λ _. omega (arith, (var-uint-sized n h).few))

pub head_grows : HeadGrows
head_grows m n h =
    by_case (ltb n 14) (λ e. let l : n < 14 = ltb-true n 14 e in omega (arith, head_short n l, head_short m (omega arith))) (λ e.
    let l : 14 ≤ n = ltb-false n 14 e in
    by_case (ltb m 14) (λ e. omega (arith, head_short m (ltb-true m 14 e), head_some n)) (λ e.
    omega (arith, head_long n l, head_long m (ltb-false m 14 e), var_uint_grows m n h)))

-- a VarUInt of any worth is no longer than one of the document, with or without the code
field_shortest : (n size : ℕ) → var_uint_size n ≤ size → head_size n ≤ 1 + size
field_shortest n size h = by_case (ltb n 14) (λ e. omega (arith, head_short n (ltb-true n 14 e))) (λ e. omega (arith, head_long n (ltb-false n 14 e)))

pub head-shortest : HeadShortest
head-shortest s at end body code n (short h e) = omega (arith, head_short code h)
head-shortest s at end body code n (long f) =
    field_shortest (var_uint_of (part s at body)) (body - at)
    (omega (arith, var-uint-shortest (part s at body) f.bytes, part_length s at body (omega (arith, f.ends, f.within))))

-- ---- a number where its bytes stand

pub record NumberStands (s : List ℕ) (at end n : ℕ) : Type 0 where
  pub number : NumberAt s at end (at + var_uint_size n)
  pub worth : var_uint_of (part s at (at + var_uint_size n)) ≡ n
  pub few : var_uint_size n ≤ 9

pub number_stands : (s : List ℕ) (at end n : ℕ) → n < 2 ^ 63 → StandsAt s at end (var_uint_bytes n) → NumberStands s at end n
number_stands s at end n h b =
    let z : Sized n = var-uint-sized n h in
    let l : length (var_uint_bytes n) ≡ var_uint_size n = z.size in
    let e : part s at (at + var_uint_size n) ≡ var_uint_bytes n = subst (λ (x : ℕ). part s at (at + x) ≡ var_uint_bytes n) l b.same in
    record {
      number = record {
        bytes = subst VarBytes (sym e) z.bytes;
        begins = omega (arith, z.some);
        ends = omega (arith, b.fits);
        within = b.within;
      };
      worth = ap var_uint_of e ∙ z.worth;
      few = z.few;
    }

-- ---- a header where its bytes stand

pub code_below : (n : ℕ) → head_code n ≤ 14
unfolding head_code
code_below n = by_test (λ (x : ℕ). x ≤ 14) (ltb n 14) (λ e. omega (arith, ltb-true n 14 e)) (λ _. omega arith)

pub head_type : (type n : ℕ) → head_byte type n / 16 ≡ type
unfolding head_byte
head_type type n = omega (arith, code_below n)

pub head-code : (type n : ℕ) → head_byte type n % 16 ≡ head_code n
unfolding head_byte
head-code type n = omega (arith, code_below n)

-- the length field of a header, in its code or behind it
in_code : (s : List ℕ) (at end n : ℕ) → ltb n 14 ≡ true → CodeLength s (at + 1) end (at + head_size n) (head_code n) n
unfolding head_code head_size
in_code s at end n e = rw e (short (ltb-true n 14 e) refl)

by_field : (s : List ℕ) (at end n : ℕ) → n < 2 ^ 63 → ltb n 14 ≡ false → StandsAt s (at + 1) end (pick (ltb n 14) [] (var_uint_bytes n)) → CodeLength s (at + 1) end (at + head_size n) (head_code n) n
unfolding head_code head_size
by_field s at end n h e r =
    let r' : StandsAt s (at + 1) end (var_uint_bytes n) = rw e at r in
    let z : NumberStands s (at + 1) end n = number_stands s (at + 1) end n h r' in
    let l : at + 1 + var_uint_size n ≡ at + (1 + var_uint_size n) = omega arith in
    rw (e, ← l) (subst (CodeLength s (at + 1) end (at + 1 + var_uint_size n) 14) z.worth (long z.number))

pub record HeadStands (s : List ℕ) (at end type n : ℕ) : Type 0 where
  pub type_is : type_at s at ≡ type
  pub code_is : code_at s at ≡ head_code n
  pub byte_is : get_or s at 0 ≡ head_byte type n
  pub field : CodeLength s (at + 1) end (at + head_size n) (head_code n) n

pub head_stands : (s : List ℕ) (at end type n : ℕ) → n < 2 ^ 63 → StandsAt s at end (head_bytes type n) → HeadStands s at end type n
unfolding head_bytes
head_stands s at end type n h b =
    let byte : get_or s at 0 ≡ head_byte type n = stands_byte (head_byte type n) (pick (ltb n 14) [] (var_uint_bytes n)) b in
    record {
      type_is = ap (λ (x : ℕ). x / 16) byte ∙ head_type type n;
      code_is = ap (λ (x : ℕ). x % 16) byte ∙ head-code type n;
      byte_is = byte;
      field = by_case (ltb n 14) (λ e. in_code s at end n e) (λ e. by_field s at end n h e (stands_next (head_byte type n) (pick (ltb n 14) [] (var_uint_bytes n)) b));
    }

-- ---- a value where its bytes stand

-- a length that is its own code
same_code : (n : ℕ) → n < 14 → head_code n ≡ n
unfolding head_code
same_code n h = rw (lt-ltb n 14 h)

-- a code below 14 is the length
pub code_same : (n c : ℕ) → c < 14 → head_code n ≡ c → n ≡ c
unfolding head_code
code_same n c h = by_test (λ (x : ℕ). x ≡ c → n ≡ c) (ltb n 14) (λ _ e. e) (λ _ e. absurd (omega arith))

writable_legal : (type n : ℕ) → Writable type n → Legal type (head_code n) n
writable_legal type n w =
    record {
      float = λ t. ⊎_elim (λ (e : n ≡ 0). inl (told 0 (omega arith) e))
          (⊎_elim (λ (e : n ≡ 4). inr (inl (told 4 (omega arith) e))) (λ (e : n ≡ 8). inr (inr (inl (told 8 (omega arith) e)))))
          (w.float t);
      timestamp = λ t _. w.timestamp t;
      ordered = λ t e. absurd (w.struct t (code_same n 1 (omega arith) e));
    }
  where
    told : (c : ℕ) → c < 14 → n ≡ c → head_code n ≡ c
    told c h e = same_code n (omega arith) ∙ e

pub typed-back : TypedBack
unfolding typed_bytes
typed-back s at end type body w b =
    let n : ℕ = length body in
    let h : HeadStands s at end type n = head_stands s at end type n w.small (stands_first (head_bytes type n) body b) in
    let l : length (head_bytes type n ++ body) ≡ head_size n + n = length-append (head_bytes type n) body ∙ ap (λ (x : ℕ). x + n) (head_length type n) in
    let m : at + head_size n + n - (at + head_size n) ≡ n = omega arith in
    let some : 1 ≤ head_size n = head_some n in
    let f : ValueLength s (at + 1) end (at + head_size n) type (head_code n) n = coded w.low (λ t e. w.struct t (code_same n 1 (omega arith) e)) h.field in (
      record {
        type = typed {type = type_at s at} (omega (arith, h.type_is, w.low)) (omega (arith, h.type_is, w.high));
        field = rw (h.type_is, h.code_is, m) f;
        legal = rw (h.type_is, h.code_is, m) (writable_legal type n w);
        byte = sym h.byte_is;
        start = refl;
        annotations = refl;
        descriptor = refl;
        low = omega arith;
        order = omega arith;
        fits = omega (arith, b.fits, l);
        within = b.within;
      },
      head_few n w.small,
    )

-- ---- a wrapper where its bytes stand

pub wrapped_length : (annotations value : List ℕ) → length (wrapped_bytes annotations value) ≡ var_uint_size (length annotations) + (length annotations + length value)
unfolding wrapped_bytes
wrapped_length annotations value =
    length-append (var_uint_bytes (length annotations)) (annotations ++ value)
    ∙ ap (λ (x : ℕ). x + length (annotations ++ value)) (bytes_size (length annotations))
    ∙ ap (λ (x : ℕ). var_uint_size (length annotations) + x) (length-append annotations value)

pub typed_length : (type : ℕ) (body : List ℕ) → length (typed_bytes type body) ≡ head_size (length body) + length body
unfolding typed_bytes
typed_length type body = length-append (head_bytes type (length body)) body ∙ ap (λ (x : ℕ). x + length body) (head_length type (length body))

pub wrapper_length : (annotations value : List ℕ) → length (wrapper_bytes annotations value) ≡ head_size (length (wrapped_bytes annotations value)) + length (wrapped_bytes annotations value)
unfolding wrapper_bytes
wrapper_length annotations value = typed_length 14 (wrapped_bytes annotations value)

pub wrapper-back : WrapperBack
unfolding wrapper_bytes typed_bytes wrapped_bytes
wrapper-back s at end annotations value inner some small b t e all =
    let m : ℕ = length annotations in
    let n : ℕ = length (wrapped_bytes annotations value) in
    let size : n ≡ var_uint_size m + (m + length value) = wrapped_length annotations value in
    let whole : length (wrapper_bytes annotations value) ≡ head_size n + n = wrapper_length annotations value in
    let after : ℕ = at + head_size n in
    let h : HeadStands s at end 14 n = head_stands s at end 14 n small (stands_first (head_bytes 14 n) (wrapped_bytes annotations value) b) in
    let r : StandsAt s after end (wrapped_bytes annotations value) = subst (λ (x : ℕ). StandsAt s (at + x) end (wrapped_bytes annotations value)) (head_length 14 n) (stands_rest (head_bytes 14 n) (wrapped_bytes annotations value) b) in
    let z : NumberStands s after end m = number_stands s after end m (omega arith) (stands_first (var_uint_bytes m) (annotations ++ value) r) in
    let d : inner.descriptor - m ≡ after + var_uint_size m = omega arith in
    let some' : 1 ≤ head_size n = head_some n in
    record {
      is = record {
        combined = n;
        after = after;
        type = h.type_is;
        field = rw h.code_is h.field;
        low = omega arith;
        count = rw d z.number;
        size = rw (d, z.worth) (omega arith);
        some = omega arith;
        inner = inner;
        value = t;
        all = omega arith;
        start = refl;
        byte = refl;
        body = refl;
        ends = refl;
      };
      near = omega (arith, head_few n small);
      close = omega (arith, z.few);
    }
