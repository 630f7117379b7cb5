-- How many bytes what is written has, and which they are by the kind of descriptor.
-- Assumes nothing.
use Prim.Native.Nat.{ℕ, ◌+◌, ◌*◌, ◌/◌, ◌%◌, ◌≤◌, ◌<◌}
use native.Mathlib.Omega.{arith}
use mathlib.Core.Path.{◌≡◌, refl, ◌∙◌, ap}
use mathlib.Core.Bool.{Bool, true, false}
use mathlib.Core.List.{List, [], ◌∷◌, ◌++◌}
use lib.ListN.{length, length-append}
use lib.Dec.{ltb, eqb}
use borrow.Author.Tests.{lt-ltb, le-ltb, eq-eqb, ne_eqb}
use Rattle.numbers.proofs.Outcomes.{by_test, by_case}
use Rattle.encoding.specs.Fields.{var_uint_size, var_uint_bytes}
use Rattle.encoding.specs.Heads.{head_bytes, head_size, wrapped_bytes}
use Rattle.encoding.proofs.VarUInts.{bytes_size}
use Rattle.encoding.proofs.Heads.{head_length, head_some, wrapped_length, wrapper_length}
use Rattle.packing.specs.Tree.{Head, lengthless, ordered_byte, empty_struct, kept_byte, header_of, wrapping, written}
use Rattle.packing.specs.Private.Sizes.{header_size, wrapped_size, wrap_size, value_size}

-- ---- which descriptors have no length

pub low_lengthless : (byte : ℕ) → byte / 16 < 2 → lengthless byte ≡ true
unfolding lengthless
low_lengthless byte h = rw (lt-ltb (byte / 16) 2 h)

pub null_lengthless : (byte : ℕ) → byte % 16 ≡ 15 → lengthless byte ≡ true
unfolding lengthless
null_lengthless byte h = by_test (λ (b : Bool). b ≡ true) (ltb (byte / 16) 2) (λ _. refl) (λ _. eq-eqb (byte % 16) 15 h)

pub has_length : (byte : ℕ) → 2 ≤ byte / 16 → (byte % 16 ≡ 15 → ⊥) → lengthless byte ≡ false
unfolding lengthless
has_length byte h k = rw (le-ltb (byte / 16) 2 h, ne_eqb (byte % 16) 15 k)

pub ordered_has : lengthless ordered_byte ≡ false
unfolding lengthless
ordered_has = refl

-- ---- by the kind of descriptor

module _ (byte n : ℕ) (e : lengthless byte ≡ true) where
  pub bare_size : header_size byte n ≡ 1
  unfolding header_size
  bare_size = rw e

  pub bare_bytes : header_of byte n ≡ byte ∷ []
  unfolding header_of
  bare_bytes = rw e

  pub bare_kept : kept_byte byte n ≡ byte
  unfolding kept_byte
  bare_kept = rw e

module _ (n : ℕ) where
  pub ordered_size : header_size ordered_byte n ≡ 1 + var_uint_size n
  unfolding header_size
  ordered_size = rw ordered_has

  pub ordered_bytes : header_of ordered_byte n ≡ ordered_byte ∷ var_uint_bytes n
  unfolding header_of
  ordered_bytes = rw ordered_has

  pub ordered_kept : 0 < n → kept_byte ordered_byte n ≡ ordered_byte
  unfolding kept_byte
  ordered_kept h = rw (ordered_has, ne_eqb n 0 (λ e. omega arith))

pub ordered_emptied : kept_byte ordered_byte 0 ≡ empty_struct
unfolding kept_byte
ordered_emptied = rw ordered_has

module _ (byte n : ℕ) (e : lengthless byte ≡ false) (o : byte ≡ ordered_byte → ⊥) where
  pub coded_size : header_size byte n ≡ head_size n
  unfolding header_size
  coded_size = rw (e, ne_eqb byte ordered_byte o)

  pub coded_bytes : header_of byte n ≡ head_bytes (byte / 16) n
  unfolding header_of
  coded_bytes = rw (e, ne_eqb byte ordered_byte o)

  pub coded_kept : kept_byte byte n ≡ byte / 16 * 16
  unfolding kept_byte
  coded_kept = rw (e, ne_eqb byte ordered_byte o)

-- ---- lengths

pub header_length : (byte n : ℕ) → length (header_of byte n) ≡ header_size byte n
unfolding header_of header_size
header_length byte n =
    by_case (lengthless byte) (λ e. rw e) (λ e.
    by_case (eqb byte ordered_byte) (λ o. rw (e, o, bytes_size n) (omega arith)) (λ o. rw (e, o, head_length (byte / 16) n)))

pub header_some : (byte n : ℕ) → 1 ≤ header_size byte n
unfolding header_size
header_some byte n =
    by_test (λ (x : ℕ). 1 ≤ x) (lengthless byte) (λ _. omega arith) (λ _.
    by_test (λ (x : ℕ). 1 ≤ x) (eqb byte ordered_byte) (λ _. omega arith) (λ _. head_some n))

pub wrapped-size : (annotations value : List ℕ) → length (wrapped_bytes annotations value) ≡ wrapped_size (length annotations) (length value)
unfolding wrapped_size
wrapped-size annotations value = wrapped_length annotations value

pub wrapping_length : (annotations value : List ℕ) → length (wrapping annotations value) ≡ wrap_size (length annotations) (length value)
unfolding wrapping wrap_size
wrapping_length annotations value =
    by_case (eqb (length annotations) 0) (λ e. rw e) (λ e.
    rw (e, wrapper_length annotations value, wrapped-size annotations value))

pub wrap_none : (n : ℕ) → wrap_size 0 n ≡ n
unfolding wrap_size
wrap_none n = refl

pub wrap_some : (m n : ℕ) → 0 < m → wrap_size m n ≡ head_size (wrapped_size m n) + wrapped_size m n
unfolding wrap_size
wrap_some m n h = rw (ne_eqb m 0 (λ e. omega arith))

pub wrap_least : (m n : ℕ) → n ≤ wrap_size m n
unfolding wrap_size wrapped_size
wrap_least m n = by_test (λ (x : ℕ). n ≤ x) (eqb m 0) (λ _. omega arith) (λ _. omega arith)

pub value-length : (byte : ℕ) (body : List ℕ) → length (header_of byte (length body) ++ body) ≡ header_size byte (length body) + length body
value-length byte body = length-append (header_of byte (length body)) body ∙ ap (λ (x : ℕ). x + length body) (header_length byte (length body))

pub written_length : (h : Head) (body : List ℕ) → length (written h body) ≡ value_size (length h.name) (length h.annotations) h.byte (length body)
unfolding written value_size
written_length h body =
    length-append h.name (wrapping h.annotations (header_of h.byte (length body) ++ body))
    ∙ ap (λ (x : ℕ). length h.name + x)
    (wrapping_length h.annotations (header_of h.byte (length body) ++ body)
    ∙ ap (wrap_size (length h.annotations)) (value-length h.byte body))
