-- `short_length` meets its contract: the descriptor tells the length, or a short VarUInt behind it does; of nothing else is a short value without a wrapper
-- said.
use Prim.Native.Nat.{ℕ, ◌+◌}
use native.Mathlib.Omega.{arith}
use mathlib.Core.Path.{◌≡◌, ◌∙◌, sym, ap}
use mathlib.Core.Bool.{true}
use lib.ListN.{get_or}
use Rattle.numbers.specs.Descriptor.{descriptor_of}
use Rattle.numbers.specs.declared.type_descriptor.TypeDescriptor.{TypeDescriptor}
use Rattle.numbers.specs.Answers.{Unsigned, var_uint}
use Rattle.numbers.specs.ShortVarUInt.{ShortUnsigned, short_var_uint_of}
use Rattle.numbers.specs.Read.{unsigned_read, short_var_uint_read}
use Rattle.numbers.proofs.Outcomes.{each_map}
use Rattle.numbers.proofs.ShortVarUInts.{short_given, short_near, short_bounded, none_long}
use Rattle.framing.specs.Answers.{fitting}
use Rattle.framing.specs.Format.{type_at, code_at}
use Rattle.framing.specs.Private.InlineLengths.{has_inline_length, inline_length, has_length_field, too_short}
use Rattle.framing.proofs.ShortValues.{none_said, never_said, inline_plain, no_inline_plain, long_plain, few_plain, read_plain}
use Rattle.framing.proofs.binary_buffer.short_length.Goals as goal
use Rattle.framing.proofs.binary_buffer.short_length.Goals.{After-from_byte-descriptor, After-short_var_uint, Else-not-has_length_field}

-- what is told of the descriptor is told of the byte's two codes
told : {A : Type 0} (f : ℕ → ℕ → A) (q : After-from_byte-descriptor) {x : A} → x ≡ f q.from_byte-descriptor.result.type_code q.from_byte-descriptor.result.length_code → let a = q.args in x ≡ f (type_at a.s.now a.at) (code_at a.s.now a.at)
unfolding descriptor_of
told f q h = h ∙ ap (λ (d : TypeDescriptor). f d.type_code d.length_code) q.from_byte-descriptor.ensures

-- a VarUInt says the length
reads : (q : Else-not-has_length_field) → let a = q.args in has_length_field (type_at a.s.now a.at) (code_at a.s.now a.at) ≡ true
reads q = sym (told has_length_field (goal.at.Else-not-has_length_field q).After-from_byte-descriptor q.has_length_field.ensures) ∙ q.if-not-has_length_field.false

-- its reading
read : (q : After-short_var_uint) {x : ShortUnsigned} → short_var_uint_read q.short_var_uint.result ≡ x → let a = q.args in short_var_uint_of (a.at + 1) (var_uint a.s.now (a.at + 1) a.end) ≡ x
read q h = sym q.short_var_uint.ensures ∙ h

pub returns-then-has_inline_length : goal.returns-then-has_inline_length
returns-then-has_inline_length c =
    let a = c.args in
    let s = a.s.now in
    let plain = inline_plain s a.at a.end c.requires.0 (sym (told has_inline_length (goal.at.returns-then-has_inline_length c).After-from_byte-descriptor c.has_inline_length.ensures) ∙ c.if-has_inline_length.true) in
    record {
      ends = omega (arith, c.requires.0);
      near = omega arith;
      reads = plain ∙ sym (ap (λ n. fitting a.at a.end (get_or s a.at 0) (record { body = a.at + 1; size = n })) (told inline_length (goal.at.returns-then-has_inline_length c).After-from_byte-descriptor c.inline_length-size.ensures));
    }

pub returns-then-not-has_length_field : goal.returns-then-not-has_length_field
returns-then-not-has_length_field c =
    let a = c.args in
    never_said a.at (no_inline_plain a.s.now a.at a.end c.requires.0 (sym (told has_inline_length (goal.at.returns-then-not-has_length_field c).After-from_byte-descriptor c.has_inline_length.ensures) ∙ c.if-has_inline_length.false) (sym (told has_length_field (goal.at.returns-then-not-has_length_field c).After-from_byte-descriptor c.has_length_field.ensures) ∙ c.if-not-has_length_field.true))

pub returns-then-too_short : goal.returns-then-too_short
returns-then-too_short c =
    let a = c.args in
    let u : Unsigned = unsigned_read c.in_ok-number.number in
    let f = short_given (a.at + 1) (var_uint a.s.now (a.at + 1) a.end) (read (goal.at.returns-then-too_short c).After-short_var_uint (ap short_var_uint_read c.in_ok-number.was)) in
    never_said a.at (few_plain a.s.now a.at a.end c.requires.0 u (reads (goal.at.returns-then-too_short c).Else-not-has_length_field) f (sym (told (λ t l. too_short t l u.value) (goal.at.returns-then-too_short c).After-from_byte-descriptor c.too_short.ensures) ∙ c.if-too_short.true))

pub returns : goal.returns
returns c =
    let a = c.args in
    let u : Unsigned = unsigned_read c.in_ok-number.number in
    let h = read (goal.at.returns c).After-short_var_uint (ap short_var_uint_read c.in_ok-number.was) in
    let o = var_uint a.s.now (a.at + 1) a.end in
    record {
      ends = (short_bounded _ _ _ h).ends;
      near = short_near (a.at + 1) o h;
      reads = read_plain a.s.now a.at a.end c.requires.0 u (reads (goal.at.returns c).Else-not-has_length_field) (short_given (a.at + 1) o h) (sym (told (λ t l. too_short t l u.value) (goal.at.returns c).After-from_byte-descriptor c.too_short.ensures) ∙ c.if-too_short.false);
    }

pub returns-in_err-number : goal.returns-in_err-number
returns-in_err-number c =
    let a = c.args in
    let l = none_long (a.at + 1) (var_uint a.s.now (a.at + 1) a.end) (read (goal.at.returns-in_err-number c).After-short_var_uint (ap short_var_uint_read c.in_err-number.was)) in
    rw c.from_residual.ensures
    (none_said a.at (each_map (long_plain a.s.now a.at a.end c.requires.0 (reads (goal.at.returns-in_err-number c).Else-not-has_length_field) l) (λ v h _. h)))
