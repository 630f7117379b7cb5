-- A value that is met: how many bytes it takes once it is packed, and what is in it.
-- Assumes nothing.
use Prim.Native.Nat.{ℕ, ◌+◌, ◌-◌, ◌≤◌}
use native.Mathlib.Omega.{arith}
use mathlib.Core.Path.{◌≡◌, ◌∙◌, sym, ap}
use mathlib.Core.Bool.{true, false, not}
use lib.ListN.{length}
use borrow.Author.Tests.{not-false}
use Rattle.std.specs.Prelude.{Result, Ok, Err, Some, None}
use Rattle.std.specs.Result.{result_ok}
use Rattle.numbers.specs.Outcome.{gives, refuses}
use Rattle.numbers.specs.declared.refusal.Refusal.{Refusal}
use Rattle.numbers.specs.Bytes.{part}
use Rattle.numbers.proofs.Outcomes.{by_case, refuse_gives}
use Rattle.framing.specs.Spans.{Spans}
use Rattle.framing.specs.Read.{spans_of}
use Rattle.values.specs.Scalars.{is_container, body_rules, Opened, opened}
use Rattle.values.specs.Read.{opened_of, body_read}
use Rattle.values.specs.declared.value.Body.{Body}
use Rattle.packing.specs.Tree.{kept_byte}
use Rattle.packing.specs.Private.Sizes.{header_size, wrap_size, value_size}
use Rattle.packing.specs.Private.Bytes.{bytes_at}
use Rattle.packing.specs.Private.Items.{entry_body, entry_bytes}
use Rattle.packing.specs.declared.part.Entry.{Entry}
use Rattle.packing.proofs.Sizes.{wrap_least}
use Rattle.packing.proofs.Places.{held_body, scalar_body, value_sized}

-- its bytes, where its body has n
pub entry_size : (x : Entry) (n : ℕ) → n ≡ length (entry_body x) → length (entry_bytes x) ≡ (x.value.start - x.from) + wrap_size (x.value.descriptor - x.value.annotations) (header_size (kept_byte x.value.byte n) n + n)
unfolding value_size
entry_size x n e =
    value_sized x.limit x.s.now (spans_of x.value) (omega arith) x.from (omega arith) (omega arith)
    ∙ ap (λ (k : ℕ). value_size (x.value.start - x.from) (x.value.descriptor - x.value.annotations) (kept_byte x.value.byte k) k) (sym e)

pub entry_least : (x : Entry) (n : ℕ) → n ≡ length (entry_body x) → header_size (kept_byte x.value.byte n) n + n ≤ length (entry_bytes x)
entry_least x n e =
    omega (arith, entry_size x n e, wrap_least (x.value.descriptor - x.value.annotations) (header_size (kept_byte x.value.byte n) n + n))

-- what is in a value that opens, and in one that does not
opens : (v : Spans) {o : Opened} → opened v ≡ gives o → (is_container v ≡ true) × (o ≡ record { rules = body_rules v; body = v.body; end = v.end })
unfolding opened
opens v h = let q = refuse_gives (not (is_container v)) 52 v.descriptor h in (not-false _ q.0, cc)

opens_not : (v : Spans) {number position : ℕ} → opened v ≡ refuses number position → is_container v ≡ false
unfolding opened
opens_not v h = by_case (is_container v) (λ c. absurd (let q = rw c at h in let z : ◌≡◌ {A = ℕ} 0 1 = cc in omega arith)) (λ c. c)

pub some_inside : (x : Entry) (r : Result Body Refusal) (b : Body) → body_read r ≡ opened (spans_of x.value) → result_ok r ≡ Some b → (bytes_at x.limit x.s.now b.rules b.cursor.end b.cursor.at ≡ entry_body x) × (b.cursor.at ≡ x.value.body) × (b.cursor.end ≡ x.value.end)
some_inside x (Ok a) b h e =
    let q = opens (spans_of x.value) (sym h) in
    let f : opened_of b ≡ record { rules = body_rules (spans_of x.value); body = x.value.body; end = x.value.end } = ap opened_of (let z : b ≡ a = cc in z) ∙ q.1 in
    (ap (λ (o : Opened). bytes_at x.limit x.s.now o.rules o.end o.body) f ∙ sym (held_body x.limit x.s.now (spans_of x.value) q.0), ap (λ (o : Opened). o.body) f, ap (λ (o : Opened). o.end) f)
some_inside x (Err a) b h e = absurd (let z : ◌≡◌ {A = ℕ} 0 1 = cc in omega arith)

pub none_inside : (x : Entry) (r : Result Body Refusal) → body_read r ≡ opened (spans_of x.value) → result_ok r ≡ None → entry_body x ≡ part x.s.now x.value.body x.value.end
none_inside x (Ok a) h e = absurd (let z : ◌≡◌ {A = ℕ} 0 1 = cc in omega arith)
none_inside x (Err a) h e = scalar_body x.limit x.s.now (spans_of x.value) (opens_not (spans_of x.value) (sym h))
