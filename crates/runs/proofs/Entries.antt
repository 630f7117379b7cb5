-- The machine's own answers of the annotation step, stepping in and the scalar reading, each the one that the rules define, and that each call ends: from the
-- functions' theorems.
-- Assumes nothing.
use Prim.Native.Nat.{ℕ}
use mathlib.Core.Path.{◌≡◌, refl, ◌∙◌, sym, ap}
use mathlib.Core.List.{List, [], ◌∷◌}
use seplogic.Ra.Ura.{Ura}
use base.Logic.{emp, id⊢}
use mir.Val.{Val}
use prog.Model.{Model}
use types.Logic.{Logic}
use contract.Monad.{fact}
use contract.Lifetimes.{Lfts}
use contract.Running.{Running, strict}
use denote.Ref.{Bor}
use Rattle.std.specs.Prelude.{Option, None, Some, Result, Ok, Err}
use Rattle.numbers.specs.Outcome.{Outcome}
use Rattle.numbers.specs.declared.refusal.Refusal.{Refusal}
use Rattle.framing.specs.Answers.{Annotated, ident, finished, read_annotation}
use Rattle.framing.specs.Read.{annotated_of, annotation_read}
use Rattle.framing.specs.declared.annotations_iterator.Annotation.{Annotation}
use Rattle.framing.specs.contracts.annotations_iterator.read_annotation as annotation
use Rattle.framing.proofs.annotations_iterator.read_annotation.Symbol as annotation-symbol
use Rattle.framing.proofs.annotations_iterator.read_annotation.Met as annotation-met
use Rattle.stepping.specs.Runs.{cursor}
use Rattle.stepping.specs.declared.cursor.Rules.{Rules}
use Rattle.stepping.specs.declared.cursor.Rules.TheVariants.{Stream, Sequence, Fields}
use Rattle.values.specs.Scalars.{Opened, step_in, Scalar, null, bool, int, float, decimal, timestamp, symbol, string, clob, blob, container, read_scalar}
use Rattle.values.specs.Read.{opened_of, body_read, scalar_told, scalar_read}
use Rattle.values.specs.declared.value.Body.{Body}
use Rattle.values.specs.declared.value.Span.{Span}
use Rattle.values.specs.declared.value.Scalar.{Scalar as ScalarEnum}
use Rattle.values.specs.declared.value.Scalar.TheVariants.{Null, Bool, Int, Float, Decimal, Timestamp, Symbol, Text, Clob, Blob, Container}
use Rattle.stepping.proofs.cursor.Rules.TheLaws as rules-laws
use Rattle.values.specs.contracts.value.step_in as entering
use Rattle.values.proofs.value.step_in.Symbol as entering-symbol
use Rattle.values.proofs.value.step_in.Met as entering-met
use Rattle.values.proofs.value.Scalar.TheLaws as scalar-laws
use Rattle.values.specs.contracts.value.read as reading
use Rattle.values.proofs.value.read.Symbol as reading-symbol
use Rattle.values.proofs.value.read.Met as reading-met
use Rattle.runs.specs.Program.{annotation_lowers, body_lowers, scalar_lowers, HasEntries, Annotates, Enters, Reads}
use Rattle.runs.proofs.Machine as machine
use Rattle.runs.proofs.Machine.{Answered}
use Rattle.runs.proofs.Values.{num, bit, field, choose, read_result, read_option, refusal_back, one_by}
use Rattle.runs.proofs.Results.{told_by}

-- ---- annotations

read_id : Val → Annotation
read_id v = record { id = num (field 0 v); next = num (field 1 v) }

read-annotation : Val → Result (Option Annotation) Refusal
read-annotation = read_result (read_option read_id)

module _ (κs : Lfts 1) where
  annotation_back : (x : Result (Option Annotation) Refusal) → read-annotation ((annotation_lowers κs).lowered x) ≡ x
  unfolding read_id read-annotation
  annotation_back (Ok (Some a)) = refl
  annotation_back (Ok None) = refl
  annotation_back (Err e) = ap Err (refusal_back e)

id_of : Annotated → Option Annotation
id_of (ident i n) = Some (record { id = i; next = n })
id_of finished = None

id_told : (a : Annotated) → annotated_of (id_of a) ≡ a
unfolding id_of
id_told (ident i n) = refl
id_told finished = refl

id_back : (a : Option Annotation) → id_of (annotated_of a) ≡ a
unfolding id_of
id_back (Some a) = refl
id_back None = refl

-- ---- stepping in

read_rules : Val → Rules
read_rules v = choose (num (field 0 v)) (Stream ∷ Sequence ∷ []) Fields

read_body : Val → Body
read_body v =
    record { rules = read_rules (field 0 v); cursor = cursor (num (field 0 (field 1 v))) (num (field 1 (field 1 v))) }

rules_back : (r : Rules) → read_rules (rules-laws.lowered r) ≡ r
unfolding read_rules
rules_back Stream = refl
rules_back Sequence = refl
rules_back Fields = refl

module _ (κs : Lfts 1) where
  body_back : (x : Result Body Refusal) → read_result read_body ((body_lowers κs).lowered x) ≡ x
  unfolding read_body
  body_back (Ok b) = ap (λ (r : Rules). Ok (record { rules = r; cursor = b.cursor })) (rules_back b.rules)
  body_back (Err e) = ap Err (refusal_back e)

body_of : Opened → Body
body_of o = record { rules = o.rules; cursor = cursor o.body o.end }

body_told : (o : Opened) → opened_of (body_of o) ≡ o
unfolding body_of
body_told o = refl

body-back : (b : Body) → body_of (opened_of b) ≡ b
unfolding body_of
body-back b = refl

-- ---- the scalar reading

abbrev pub read_span : Val → Span
read_span v = record { start = num (field 0 v); end = num (field 1 v) }

read-scalar : Val → ScalarEnum
read-scalar v =
    let a : ℕ = num (field 1 v) in
    let s : Span = read_span (field 1 v) in
    choose (num (field 0 v))
    (Null a ∷ Bool (bit (field 1 v)) ∷ Int (bit (field 1 v)) (read_span (field 2 v)) ∷ Float a ∷ Decimal s ∷ Timestamp s ∷ Symbol a ∷ Text s ∷ Clob s ∷ Blob s ∷ [])
    Container

scalar_back : (x : ScalarEnum) → read-scalar (scalar-laws.lowered x) ≡ x
unfolding read-scalar
scalar_back (Null t) = refl
scalar_back (Bool b) = refl
scalar_back (Int n m) = refl
scalar_back (Float w) = refl
scalar_back (Decimal b) = refl
scalar_back (Timestamp b) = refl
scalar_back (Symbol i) = refl
scalar_back (Text b) = refl
scalar_back (Clob b) = refl
scalar_back (Blob b) = refl
scalar_back Container = refl

module _ (κs : Lfts 1) where
  reading_back : (x : Result ScalarEnum Refusal) → read_result read-scalar ((scalar_lowers κs).lowered x) ≡ x
  reading_back (Ok x) = ap Ok (scalar_back x)
  reading_back (Err e) = ap Err (refusal_back e)

abbrev pub span : ℕ → ℕ → Span
span a b = record { start = a; end = b }

scalar-of : Scalar → ScalarEnum
scalar-of (null t) = Null t
scalar-of (bool b) = Bool b
scalar-of (int n a b) = Int n (span a b)
scalar-of (float w) = Float w
scalar-of (decimal a b) = Decimal (span a b)
scalar-of (timestamp a b) = Timestamp (span a b)
scalar-of (symbol i) = Symbol i
scalar-of (string a b) = Text (span a b)
scalar-of (clob a b) = Clob (span a b)
scalar-of (blob a b) = Blob (span a b)
scalar-of container = Container

scalar_told_lem : (x : Scalar) → scalar_told (scalar-of x) ≡ x
unfolding scalar-of
scalar_told_lem (null t) = refl
scalar_told_lem (bool b) = refl
scalar_told_lem (int n a b) = refl
scalar_told_lem (float w) = refl
scalar_told_lem (decimal a b) = refl
scalar_told_lem (timestamp a b) = refl
scalar_told_lem (symbol i) = refl
scalar_told_lem (string a b) = refl
scalar_told_lem (clob a b) = refl
scalar_told_lem (blob a b) = refl
scalar_told_lem container = refl

scalar_of_lem : (x : ScalarEnum) → scalar-of (scalar_told x) ≡ x
unfolding scalar-of
scalar_of_lem (Null t) = refl
scalar_of_lem (Bool b) = refl
scalar_of_lem (Int n m) = refl
scalar_of_lem (Float w) = refl
scalar_of_lem (Decimal b) = refl
scalar_of_lem (Timestamp b) = refl
scalar_of_lem (Symbol i) = refl
scalar_of_lem (Text b) = refl
scalar_of_lem (Clob b) = refl
scalar_of_lem (Blob b) = refl
scalar_of_lem Container = refl

module _ {M : Type 1} {𝓤 : Ura M} (𝓛 : Logic 𝓤) (𝓜 : Model 𝓤 𝓛.H) (𝓡 : Running 𝓤 𝓛.H 𝓜) (has : HasEntries 𝓡.env) (κs : Lfts 1) where
  open 𝓛 use {H}

  pub annotation_answers : (s : Bor (List ℕ)) (at end : ℕ) → Answered 𝓛 𝓜 annotation.signature (𝓡.env annotation-symbol.name) κs tt (annotation_lowers κs) (s, (at, (end, tt))) (λ x. annotation_read x ≡ read_annotation s.now at end)
  annotation_answers s at end =
      machine.answered 𝓛 𝓜 𝓡 annotation.ended (𝓡.env annotation-symbol.name) (annotation.clauses 𝓛 𝓜.mem 𝓡.returns) (annotation-met.met 𝓤 𝓛 𝓜 (strict 𝓤 H 𝓜 𝓡) has.annotation) κs tt (annotation_lowers κs) (told_by annotated_of id_of id_told id_back) (one_by (annotation_lowers κs).lowered read-annotation (annotation_back κs))
      (s, (at, (end, tt))) tt (read_annotation s.now at end) (id⊢ 𝓤 (emp 𝓤)) (λ x ws. id⊢ 𝓤 (fact 𝓤 (annotation_read x ≡ read_annotation s.now at end)))

  pub entering_answers : (limit : ℕ) (s : Bor (List ℕ)) (lo hi at : ℕ) → Answered 𝓛 𝓜 entering.signature (𝓡.env entering-symbol.name) κs tt (body_lowers κs) (s, (lo, (hi, (at, (limit, tt))))) (λ x. body_read x ≡ step_in limit s.now lo hi at)
  entering_answers limit s lo hi at =
      machine.answered 𝓛 𝓜 𝓡 entering.ended (𝓡.env entering-symbol.name) (entering.clauses 𝓛 𝓜.mem 𝓡.returns) (entering-met.met 𝓤 𝓛 𝓜 (strict 𝓤 H 𝓜 𝓡) has.entering) κs tt (body_lowers κs) (told_by opened_of body_of body_told body-back) (one_by (body_lowers κs).lowered (read_result read_body) (body_back κs))
      (s, (lo, (hi, (at, (limit, tt))))) tt (step_in limit s.now lo hi at) (id⊢ 𝓤 (emp 𝓤)) (λ x ws. id⊢ 𝓤 (fact 𝓤 (body_read x ≡ step_in limit s.now lo hi at)))

  pub reading_answers : (limit : ℕ) (s : Bor (List ℕ)) (lo hi at : ℕ) → Answered 𝓛 𝓜 reading.signature (𝓡.env reading-symbol.name) κs tt (scalar_lowers κs) (s, (lo, (hi, (at, (limit, tt))))) (λ x. scalar_read x ≡ read_scalar limit s.now lo hi at)
  reading_answers limit s lo hi at =
      machine.answered 𝓛 𝓜 𝓡 reading.ended (𝓡.env reading-symbol.name) (reading.clauses 𝓛 𝓜.mem 𝓡.returns) (reading-met.met 𝓤 𝓛 𝓜 (strict 𝓤 H 𝓜 𝓡) has.reading) κs tt (scalar_lowers κs) (told_by scalar_told scalar-of scalar_told_lem scalar_of_lem) (one_by (scalar_lowers κs).lowered (read_result read-scalar) (reading_back κs))
      (s, (lo, (hi, (at, (limit, tt))))) tt (read_scalar limit s.now lo hi at) (id⊢ 𝓤 (emp 𝓤)) (λ x ws. id⊢ 𝓤 (fact 𝓤 (scalar_read x ≡ read_scalar limit s.now lo hi at)))

  pub annotates : (s : Bor (List ℕ)) (end at : ℕ) (o : Outcome Annotated) → Annotates 𝓛 𝓜 𝓡.env κs s end at o → o ≡ read_annotation s.now at end
  annotates s end at o p = sym p.2 ∙ (annotation_answers s at end).returned p.0 p.1

  pub enters : (limit : ℕ) (s : Bor (List ℕ)) (lo hi at : ℕ) (o : Outcome Opened) → Enters 𝓛 𝓜 𝓡.env κs limit s lo hi at o → o ≡ step_in limit s.now lo hi at
  enters limit s lo hi at o p = sym p.2 ∙ (entering_answers limit s lo hi at).returned p.0 p.1

  pub reads : (limit : ℕ) (s : Bor (List ℕ)) (lo hi at : ℕ) (o : Outcome Scalar) → Reads 𝓛 𝓜 𝓡.env κs limit s lo hi at o → o ≡ read_scalar limit s.now lo hi at
  reads limit s lo hi at o p = sym p.2 ∙ (reading_answers limit s lo hi at).returned p.0 p.1
