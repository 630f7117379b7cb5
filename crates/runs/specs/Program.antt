-- The program's own answers: what the machine returned to calls of the six entries, and that each call ends. The theorems on runs, of these: `program_tiling`,
-- `program_overwriting`, `program_one_body` and `program_ends` of proofs/Program.antt. As a function's statement is, they are for
-- every model of the machine and every environment that has the functions' code.
-- Assumes nothing.
use Rattle.std.specs.Prelude.{ℕ, ◌≡◌, List, Option, Result}
use seplogic.Ra.Ura.{Ura}
use prog.Model.{Model}
use prog.Routine.{Env}
use prog.Wired.{Wired}
use types.Logic.{Logic}
use contract.Lifetimes.{Lfts}
use denote.Lowered.{Lowered}
use denote.Signature.{type_at}
use Rattle.std.proofs.option.Option.TheLaws as option-laws
use Rattle.std.proofs.result.Result.TheLaws as result-laws
use Rattle.std.specs.Borrow.{Bor}
use Rattle.numbers.specs.Outcome.{Outcome}
use Rattle.numbers.specs.declared.refusal.Refusal.{Refusal}
use Rattle.numbers.proofs.refusal.Refusal.TheLaws as refusal-laws
use Rattle.framing.specs.Answers.{Annotated, read_annotation}
use Rattle.framing.specs.Read.{annotation_read}
use Rattle.framing.specs.declared.annotations_iterator.Annotation.{Annotation}
use Rattle.framing.proofs.annotations_iterator.Annotation.TheLaws as annotation-laws
use Rattle.framing.specs.contracts.annotations_iterator.read_annotation as annotation
use Rattle.framing.proofs.annotations_iterator.read_annotation.Symbol as annotation-symbol
use Rattle.stepping.specs.Answers.{Stepped, step_of}
use Rattle.stepping.specs.Read.{step_read}
use Rattle.stepping.specs.Runs.{cursor, Run, Tiled}
use Rattle.stepping.specs.declared.cursor.Cursor.{Cursor}
use Rattle.stepping.specs.declared.cursor.Rules.{Rules}
use Rattle.stepping.specs.declared.cursor.Rules.TheVariants.{Stream, Sequence, Fields}
use Rattle.stepping.specs.declared.cursor.Step.{Step}
use Rattle.stepping.proofs.cursor.Step.TheLaws.{lowers}
use Rattle.stepping.specs.contracts.cursor.Cursor.next_in_stream as in-stream
use Rattle.stepping.proofs.cursor.Cursor.next_in_stream.Symbol as in-stream-symbol
use Rattle.stepping.specs.contracts.cursor.Cursor.next_in_sequence as in-sequence
use Rattle.stepping.proofs.cursor.Cursor.next_in_sequence.Symbol as in-sequence-symbol
use Rattle.stepping.specs.contracts.cursor.Cursor.next_in_struct as in-struct
use Rattle.stepping.proofs.cursor.Cursor.next_in_struct.Symbol as in-struct-symbol
use Rattle.values.specs.Read.{body_read, scalar_read}
use Rattle.values.specs.Scalars.{Opened, step_in, Scalar, read_scalar, part_of}
use Rattle.values.specs.declared.value.Body.{Body}
use Rattle.values.specs.declared.value.Scalar.{Scalar as ScalarEnum}
use Rattle.values.proofs.value.Body.TheLaws as body-laws
use Rattle.values.specs.contracts.value.step_in as entering
use Rattle.values.proofs.value.step_in.Symbol as entering-symbol
use Rattle.values.proofs.value.Scalar.TheLaws as scalar-laws
use Rattle.values.specs.contracts.value.read as reading
use Rattle.values.proofs.value.read.Symbol as reading-symbol
use Rattle.runs.specs.Machine as machine
use Rattle.runs.specs.Machine.{told}
use Rattle.runs.specs.Reached.{ReachedBody, Agree, In, Entries, SameAnswers}
use Rattle.runs.specs.Overwritten.{Site, Sites, Over, SameOutside}

-- an environment that has the code of the six entries, with the code of all that they name: what each function's own statement asks of it
pub record HasEntries (γ : Env) : Type 0 where
  pub in_stream : Wired γ in-stream-symbol.code
  pub in_sequence : Wired γ in-sequence-symbol.code
  pub in_struct : Wired γ in-struct-symbol.code
  pub annotation : Wired γ annotation-symbol.code
  pub entering : Wired γ entering-symbol.code
  pub reading : Wired γ reading-symbol.code

-- the machine's values of the results of the annotation step, of stepping in and of the scalar reading, by those of their parts
abbrev pub annotation_lowers : (κs : Lfts 1) → Lowered (type_at annotation.signature.result κs)
annotation_lowers κs =
    result-laws.lowers _ _ (option-laws.the_row_laws _ annotation-laws.the_row_laws) refusal-laws.the_row_laws
    (told (option-laws.lowers _ annotation-laws.the_row_laws (told annotation-laws.lowers))) (told refusal-laws.lowers)

abbrev pub body_lowers : (κs : Lfts 1) → Lowered (type_at entering.signature.result κs)
body_lowers κs =
    result-laws.lowers _ _ body-laws.the_row_laws refusal-laws.the_row_laws (told body-laws.lowers) (told refusal-laws.lowers)

abbrev pub scalar_lowers : (κs : Lfts 1) → Lowered (type_at reading.signature.result κs)
scalar_lowers κs =
    result-laws.lowers _ _ scalar-laws.the_row_laws refusal-laws.the_row_laws (told scalar-laws.lowers) (told refusal-laws.lowers)

-- γ says what each call means: the six entries are called in it by their names
module _ {M : Type 1} {𝓤 : Ura M} (𝓛 : Logic 𝓤) (𝓜 : Model 𝓤 𝓛.H) (γ : Env) (κs : Lfts 1) where
  -- the machine, called for the program's step of these rules with the cursor c on the slice s, in some memory in which they are passed, returned x
  abbrev pub Returned : ℕ → Rules → Bor (List ℕ) → Cursor → Step → Type 1
  Returned limit Stream s c x = machine.Returned 𝓛 𝓜 in-stream.signature (γ in-stream-symbol.name) κs tt lowers (c, (s, (limit, tt))) x
  Returned limit Sequence s c x = machine.Returned 𝓛 𝓜 in-sequence.signature (γ in-sequence-symbol.name) κs tt lowers (c, (s, (limit, tt))) x
  Returned limit Fields s c x = machine.Returned 𝓛 𝓜 in-struct.signature (γ in-struct-symbol.name) κs tt lowers (c, (s, (limit, tt))) x

  -- r is an answer of the program
  abbrev pub Program : ℕ → Rules → Bor (List ℕ) → Cursor → Stepped → Type 1
  Program limit rules s c r = (x : Step) × Returned limit rules s c x × (step_read x ≡ r)

  -- o is what the machine's answer to an annotation step on s, at `at` of the bytes that end at `end`, is read as
  abbrev pub Annotates : Bor (List ℕ) → ℕ → ℕ → Outcome Annotated → Type 1
  Annotates s end at o =
      (x : Result (Option Annotation) Refusal)
      × machine.Returned 𝓛 𝓜 annotation.signature (γ annotation-symbol.name) κs tt (annotation_lowers κs) (s, (at, (end, tt))) x
      × (annotation_read x ≡ o)

  -- and to stepping in, in the part lo..hi at `at`
  abbrev pub Enters : ℕ → Bor (List ℕ) → ℕ → ℕ → ℕ → Outcome Opened → Type 1
  Enters limit s lo hi at o =
      (x : Result Body Refusal)
      × machine.Returned 𝓛 𝓜 entering.signature (γ entering-symbol.name) κs tt (body_lowers κs) (s, (lo, (hi, (at, (limit, tt))))) x
      × (body_read x ≡ o)

  -- and to the scalar reading
  abbrev pub Reads : ℕ → Bor (List ℕ) → ℕ → ℕ → ℕ → Outcome Scalar → Type 1
  Reads limit s lo hi at o =
      (x : Result ScalarEnum Refusal)
      × machine.Returned 𝓛 𝓜 reading.signature (γ reading-symbol.name) κs tt (scalar_lowers κs) (s, (lo, (hi, (at, (limit, tt))))) x
      × (scalar_read x ≡ o)

  -- the bytes of the map at the span that the machine's scalar reading returned
  abbrev pub BytesRead : ℕ → Bor (List ℕ) → ℕ → ℕ → ℕ → List ℕ → Type 1
  BytesRead limit s lo hi at r = (o : Outcome Scalar) × Reads limit s lo hi at o × (r ≡ part_of s.now o)

  -- the map s with the program's answers
  abbrev pub ByProgram : ℕ → Bor (List ℕ) → Entries {1}
  ByProgram limit s =
      record {
        map = s.now;
        limit = limit;
        step = λ rules. Program limit rules s;
        annotation = Annotates s;
        entering = Enters limit s;
        reading = Reads limit s;
        bytes = BytesRead limit s;
      }

  -- Demand 3, first half, of the program: whatever the machine returned, in however many calls, tiles the part.
  abbrev pub ProgramTiling : Type 1
  ProgramTiling =
      (limit : ℕ) (rules : Rules) (s : Bor (List ℕ)) (lo hi : ℕ) (rs : List Stepped)
      → Run (Program limit rules s) (cursor lo hi) rs → Tiled limit rules s.now lo hi rs

  -- The change request A.14, of the program: whatever the machine returned on two maps that are alike but for the bodies and annotation bytes of any set of
  -- reached values and pads, none inside another, in however many calls outside them, is the same.
  abbrev pub ProgramOverwriting : Type 1
  ProgramOverwriting =
      (limit : ℕ) (s s' : Bor (List ℕ)) (lo₀ hi₀ : ℕ) (Chosen : Site → Type 0)
      → Sites limit s.now (ByProgram limit s).step lo₀ hi₀ Chosen → Agree s.now s'.now (Over Chosen)
      → SameOutside (ByProgram limit s) (ByProgram limit s') lo₀ hi₀ Chosen

  -- Demand 3, second half, of the program: whatever the machine returned on two maps that are alike outside one reached body, in however many calls outside it,
  -- is the same.
  abbrev pub ProgramOneBody : Type 1
  ProgramOneBody =
      (limit : ℕ) (s s' : Bor (List ℕ)) (lo₀ hi₀ b e : ℕ)
      → ReachedBody limit s.now (ByProgram limit s).step lo₀ hi₀ b e → Agree s.now s'.now (In b e)
      → SameAnswers (ByProgram limit s) (ByProgram limit s') lo₀ hi₀ b e

  -- The calls of the program end: of a step with any limit and any cursor on any slice, in every memory in which they are passed, with the answer that the
  -- rules define.
  abbrev pub StepEnds : ℕ → Rules → Bor (List ℕ) → Cursor → Type 1
  StepEnds limit Stream s c =
      machine.Ends 𝓛 𝓜 in-stream.signature (γ in-stream-symbol.name) κs tt lowers (c, (s, (limit, tt)))
      (λ x. step_read x ≡ step_of limit Stream s.now c)
  StepEnds limit Sequence s c =
      machine.Ends 𝓛 𝓜 in-sequence.signature (γ in-sequence-symbol.name) κs tt lowers (c, (s, (limit, tt)))
      (λ x. step_read x ≡ step_of limit Sequence s.now c)
  StepEnds limit Fields s c =
      machine.Ends 𝓛 𝓜 in-struct.signature (γ in-struct-symbol.name) κs tt lowers (c, (s, (limit, tt)))
      (λ x. step_read x ≡ step_of limit Fields s.now c)

  -- So do those of the annotation step, stepping in and the scalar reading, at any positions.
  pub record ProgramEnds : Type 1 where
    pub steps : (limit : ℕ) (rules : Rules) (s : Bor (List ℕ)) (c : Cursor) → StepEnds limit rules s c
    pub annotation : (s : Bor (List ℕ)) (at end : ℕ)
        → machine.Ends 𝓛 𝓜 annotation.signature (γ annotation-symbol.name) κs tt (annotation_lowers κs) (s, (at, (end, tt)))
        (λ x. annotation_read x ≡ read_annotation s.now at end)
    pub entering : (limit : ℕ) (s : Bor (List ℕ)) (lo hi at : ℕ)
        → machine.Ends 𝓛 𝓜 entering.signature (γ entering-symbol.name) κs tt (body_lowers κs) (s, (lo, (hi, (at, (limit, tt)))))
        (λ x. body_read x ≡ step_in limit s.now lo hi at)
    pub reading : (limit : ℕ) (s : Bor (List ℕ)) (lo hi at : ℕ)
        → machine.Ends 𝓛 𝓜 reading.signature (γ reading-symbol.name) κs tt (scalar_lowers κs) (s, (lo, (hi, (at, (limit, tt)))))
        (λ x. scalar_read x ≡ read_scalar limit s.now lo hi at)
