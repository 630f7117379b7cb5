-- What is written of a value is what goes before its body, and the body.
-- Assumes nothing.
use Prim.Native.Nat.{ℕ, ◌+◌}
use native.Mathlib.Omega.{arith}
use mathlib.Core.Path.{◌≡◌, ◌∙◌, sym, ap}
use mathlib.Core.List.{List, [], ◌++◌, append_assoc}
use lib.ListN.{length, length-append}
use lib.Dec.{eqb}
use lib.Seq.{sets}
use borrow.Author.Tests.{ne_eqb}
use Rattle.numbers.proofs.Outcomes.{by_case}
use Rattle.encoding.specs.Fields.{var_uint_size, var_uint_bytes}
use Rattle.encoding.specs.Heads.{head_bytes, head_size, typed_bytes, wrapped_bytes, wrapper_bytes}
use Rattle.encoding.proofs.VarUInts.{bytes_size}
use Rattle.encoding.proofs.Heads.{head_length}
use Rattle.encoding.proofs.Stores.{sets_more}
use Rattle.numbers.specs.Bytes.{part}
use Rattle.framing.specs.Read.{spans_of}
use Rattle.packing.specs.Tree.{Head, header_of, wrapping, written}
use Rattle.packing.specs.Packed.{head_of}
use Rattle.packing.specs.Private.Bytes.{value_bytes}
use Rattle.packing.specs.Private.Items.{entry_body, entry_bytes, entry_front}
use Rattle.packing.specs.declared.part.Entry.{Entry}
use Rattle.packing.specs.Private.Sizes.{header_size, wrapped_size, wrap_size}
use Rattle.packing.specs.Private.Fronts.{wrap_front, front_of}
use Rattle.packing.proofs.Sizes.{value-length, wrapped-size, wrap_some}

inner : (a v : List ℕ) → wrapped_bytes a v ≡ (var_uint_bytes (length a) ++ a) ++ v
unfolding wrapped_bytes
inner a v = sym (append_assoc (var_uint_bytes (length a)) a v)

wrapper_split : (annotations value : List ℕ) → wrapper_bytes annotations value ≡ (head_bytes 14 (wrapped_size (length annotations) (length value)) ++ (var_uint_bytes (length annotations) ++ annotations)) ++ value
unfolding wrapper_bytes typed_bytes
wrapper_split annotations value =
    ap (λ (n : ℕ). head_bytes 14 n ++ wrapped_bytes annotations value) (wrapped-size annotations value)
    ∙ ap (λ (l : List ℕ). head_bytes 14 (wrapped_size (length annotations) (length value)) ++ l) (inner annotations value)
    ∙ sym (append_assoc (head_bytes 14 (wrapped_size (length annotations) (length value))) (var_uint_bytes (length annotations) ++ annotations) value)

wrap_split : (annotations value : List ℕ) → wrapping annotations value ≡ wrap_front annotations (length value) ++ value
unfolding wrapping wrap_front
wrap_split annotations value = by_case (eqb (length annotations) 0) (λ e. rw e) (λ e. rw e (wrapper_split annotations value))

pub written_split : (h : Head) (body : List ℕ) → written h body ≡ front_of h (length body) ++ body
unfolding written front_of
written_split h body =
    let header : List ℕ = header_of h.byte (length body) in
    let front : List ℕ = wrap_front h.annotations (header_size h.byte (length body) + length body) in
    ap (λ (l : List ℕ). h.name ++ l) (wrap_split h.annotations (header ++ body) ∙ ap (λ (n : ℕ). wrap_front h.annotations n ++ (header ++ body)) (value-length h.byte body) ∙ sym (append_assoc front header body))
    ∙ sym (append_assoc h.name (front ++ header) body)

-- its size
pub wrap_front_length : (annotations : List ℕ) (n : ℕ) → length (wrap_front annotations n) + n ≡ wrap_size (length annotations) n
unfolding wrap_front wrap_size wrapped_size
wrap_front_length annotations n =
    by_case (eqb (length annotations) 0) (λ e. rw e (omega arith)) (λ e.
    rw (e, length-append (head_bytes 14 (var_uint_size (length annotations) + (length annotations + n))) (var_uint_bytes (length annotations) ++ annotations), head_length 14 (var_uint_size (length annotations) + (length annotations + n)), length-append (var_uint_bytes (length annotations)) annotations, bytes_size (length annotations))
    (omega arith))

-- ---- what is put, one behind the other

pub ruleset puts = (sets_more, length-append)

-- a wrapper's size, its sums written out
pub wrap_summed : (m n : ℕ) → (m ≡ 0 → ⊥) → wrap_size m n ≡ head_size (var_uint_size m + (m + n)) + (var_uint_size m + (m + n))
unfolding wrapped_size
wrap_summed m n h = wrap_some m n (omega arith)

pub front_none : (annotations : List ℕ) (n : ℕ) → length annotations ≡ 0 → wrap_front annotations n ≡ []
unfolding wrap_front
front_none annotations n e = rw e

pub front_some : (annotations : List ℕ) (n : ℕ) → (length annotations ≡ 0 → ⊥) → wrap_front annotations n ≡ head_bytes 14 (var_uint_size (length annotations) + (length annotations + n)) ++ (var_uint_bytes (length annotations) ++ annotations)
unfolding wrap_front wrapped_size
front_some annotations n h = rw (ne_eqb (length annotations) 0 h)

entry_split : (x : Entry) (n : ℕ) → n ≡ length (entry_body x) → entry_front x n ++ entry_body x ≡ entry_bytes x
unfolding value_bytes
entry_split x n e =
    let h : ℕ → Head = head_of x.s.now (part x.s.now x.from x.value.start) (spans_of x.value) in
    ap (λ (k : ℕ). front_of (h k) k ++ entry_body x) e ∙ sym (written_split (h (length (entry_body x))) (entry_body x))

pub entry_length : (x : Entry) (n : ℕ) → n ≡ length (entry_body x) → length (entry_front x n) + n ≡ length (entry_bytes x)
entry_length x n e =
    omega (arith, length-append (entry_front x n) (entry_body x), ap length (entry_split x n e))

pub entry_stored : (x : Entry) (n : ℕ) (out : List ℕ) (to : ℕ) → n ≡ length (entry_body x) → sets (sets out to (entry_front x n)) (to + length (entry_front x n)) (entry_body x) ≡ sets out to (entry_bytes x)
entry_stored x n out to e =
    sym (sets_more out to (entry_front x n) (entry_body x)) ∙ ap (sets out to) (entry_split x n e)
