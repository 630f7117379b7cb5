-- The theorems on runs, of the program's own steps: of what the machine returned on calls of the three step methods. As a function's statement is, they are
-- for every model of the machine.
-- Assumes nothing.
use Prim.Native.Nat.{ℕ}
use mathlib.Core.Path.{◌≡◌, refl, ◌∙◌, sym, ap}
use mathlib.Core.List.{List, [], ◌∷◌}
use mathlib.Core.Logic.{◌⊎◌, inl, inr}
use seplogic.Ra.Ura.{Ura}
use base.Logic.{emp, id⊢}
use mir.Val.{Val}
use prog.Model.{Model}
use types.Logic.{Logic}
use contract.Monad.{fact}
use contract.Lifetimes.{Lfts}
use contract.Running.{Running, strict}
use denote.Ref.{Bor}
use Rattle.std.specs.Prelude.{Result, Ok, Err}
use Rattle.numbers.specs.Outcome.{Outcome}
use Rattle.numbers.specs.declared.refusal.Refusal.{Refusal}
use Rattle.numbers.specs.declared.refusal.Reason.{Reason}
use Rattle.numbers.specs.declared.refusal.Reason.TheVariants.{NoValueLeft, MarkerCut, VarUIntCut, VarIntCut, AnnotationsCut, PadCut, FieldCut, ValueCut}
use Rattle.numbers.specs.declared.refusal.Reason.TheVariants.{IntCut, NumberTooLong, BadMarker, NotAValue, NoAnnotations, AnnotationsTooLong, NoRoomForValue}
use Rattle.numbers.specs.declared.refusal.Reason.TheVariants.{TooManyAnnotations, WrapperInWrapper, PadInWrapper, WrappedLengthDiffers, BadFloatLength}
use Rattle.numbers.specs.declared.refusal.Reason.TheVariants.{TimestampTooShort, EmptyOrderedStruct, BadBool, NegativeZeroInt, SymbolTooLong, BadUtf8}
use Rattle.numbers.specs.declared.refusal.Reason.TheVariants.{TooDeep, NotVersion10, HourWithoutMinute, TimestampOutOfRange, CoefficientTooLong, HasImports}
use Rattle.numbers.specs.declared.refusal.Reason.TheVariants.{SecondSymbols, Outside, RecordTooShort, NotAContainer, InputTooLong, NotTheSystemText, NoPadsAllowed}
use Rattle.numbers.specs.declared.refusal.Reason.TheVariants.{LimitOutOfRange, NoRoomToPack, NoRoomToWrite, NoSuchLength}
use Rattle.framing.specs.Spans.{Spans}
use Rattle.framing.specs.Answers.{Annotated}
use Rattle.framing.specs.declared.encoded_value.EncodedValue.{EncodedValue}
use Rattle.stepping.specs.Items.{Item as Answer, finish, marker, value, field}
use Rattle.stepping.specs.Answers.{Stepped, step_of}
use Rattle.stepping.specs.Read.{places_of, item_read, step_read}
use Rattle.stepping.specs.Runs.{cursor, Answers, Run, none, call}
use Rattle.runs.specs.Reached.{Part, the_stream, inner, Handed, AnnotationRun, none as no_more, call as one_more, ByRules, EitherPart, Calls}
use Rattle.runs.specs.Overwritten.{Site, ReachedSite, reached_value, reached_pad, ValueOutside, SameOutside}
use Rattle.stepping.specs.declared.cursor.Cursor.{Cursor}
use Rattle.stepping.specs.declared.cursor.Rules.{Rules}
use Rattle.stepping.specs.declared.cursor.Rules.TheVariants.{Stream, Sequence, Fields}
use Rattle.stepping.specs.declared.cursor.Item.{Item}
use Rattle.stepping.specs.declared.cursor.Item.TheVariants.{End, Marker, Value, Field}
use Rattle.stepping.specs.declared.cursor.Step.{Step}
use Rattle.runs.proofs.Machine as machine
use Rattle.runs.proofs.Machine.{Answered, Reading}
use Rattle.runs.proofs.Values.{num, parts, nth, choose, read_result, one_by}
use Rattle.runs.proofs.Results.{told_by}
use Rattle.stepping.proofs.Tiling.{tiling}
use Rattle.runs.proofs.Overwriting.{overwriting}
use Rattle.runs.proofs.OneBody.{Stands, by_rules, one_of_many}
use Rattle.runs.specs.Program.{HasEntries, Program, BytesRead, ByProgram, ProgramTiling, ProgramOverwriting, ProgramOneBody, StepEnds, ProgramEnds}
use Rattle.runs.proofs.Entries.{annotates, enters, reads, annotation_answers, entering_answers, reading_answers}
use Rattle.stepping.proofs.cursor.Step.TheLaws.{lowered, lowers}
use Rattle.stepping.specs.contracts.cursor.Cursor.next_in_stream as in-stream
use Rattle.stepping.proofs.cursor.Cursor.next_in_stream.Symbol as in-stream-symbol
use Rattle.stepping.proofs.cursor.Cursor.next_in_stream.Met as in-stream-met
use Rattle.stepping.specs.contracts.cursor.Cursor.next_in_sequence as in-sequence
use Rattle.stepping.proofs.cursor.Cursor.next_in_sequence.Symbol as in-sequence-symbol
use Rattle.stepping.proofs.cursor.Cursor.next_in_sequence.Met as in-sequence-met
use Rattle.stepping.specs.contracts.cursor.Cursor.next_in_struct as in-struct
use Rattle.stepping.proofs.cursor.Cursor.next_in_struct.Symbol as in-struct-symbol
use Rattle.stepping.proofs.cursor.Cursor.next_in_struct.Met as in-struct-met
use Rattle.values.specs.Scalars.{part_of, scalar_part}

-- a step, read back from its machine value
read-value : Val → EncodedValue
read-value v =
    let f : ℕ → ℕ = λ i. num (nth i (parts v)) in
    record { start = f 0; annotations = f 1; descriptor = f 2; body = f 3; end = f 4; byte = f 5 }

read-item : Val → Item
read-item v =
    let f : ℕ → Val = λ i. nth i (parts v) in
    choose (num (f 0))
    (End (num (f 1)) ∷ Marker (num (f 1)) (num (f 2)) (num (f 3)) (num (f 4)) ∷ Value (read-value (f 1)) ∷ [])
    (Field (num (f 1)) (num (f 2)) (read-value (f 3)))

read_step : Val → Step
read_step v =
    record { item = read_result read-item (nth 0 (parts v)); next = cursor (num (nth 0 (parts (nth 1 (parts v))))) (num (nth 1 (parts (nth 1 (parts v))))) }

-- case by case: the machine's value of a reason inside a step is no term that `refusal_back` speaks of
refused_back : (r : Reason) (p : ℕ) (n : Cursor) → let x : Step = record { item = Err (record { reason = r; position = p }); next = n } in read_step (lowered x) ≡ x
unfolding read-value read-item read_step
refused_back NoValueLeft p n = refl
refused_back MarkerCut p n = refl
refused_back VarUIntCut p n = refl
refused_back VarIntCut p n = refl
refused_back AnnotationsCut p n = refl
refused_back PadCut p n = refl
refused_back FieldCut p n = refl
refused_back ValueCut p n = refl
refused_back IntCut p n = refl
refused_back NumberTooLong p n = refl
refused_back BadMarker p n = refl
refused_back NotAValue p n = refl
refused_back NoAnnotations p n = refl
refused_back AnnotationsTooLong p n = refl
refused_back NoRoomForValue p n = refl
refused_back TooManyAnnotations p n = refl
refused_back WrapperInWrapper p n = refl
refused_back PadInWrapper p n = refl
refused_back WrappedLengthDiffers p n = refl
refused_back BadFloatLength p n = refl
refused_back TimestampTooShort p n = refl
refused_back EmptyOrderedStruct p n = refl
refused_back BadBool p n = refl
refused_back NegativeZeroInt p n = refl
refused_back SymbolTooLong p n = refl
refused_back BadUtf8 p n = refl
refused_back TooDeep p n = refl
refused_back NotVersion10 p n = refl
refused_back HourWithoutMinute p n = refl
refused_back TimestampOutOfRange p n = refl
refused_back CoefficientTooLong p n = refl
refused_back HasImports p n = refl
refused_back SecondSymbols p n = refl
refused_back Outside p n = refl
refused_back RecordTooShort p n = refl
refused_back NotAContainer p n = refl
refused_back InputTooLong p n = refl
refused_back NotTheSystemText p n = refl
refused_back NoPadsAllowed p n = refl
refused_back LimitOutOfRange p n = refl
refused_back NoRoomToPack p n = refl
refused_back NoRoomToWrite p n = refl
refused_back NoSuchLength p n = refl

read_back : (x : Result Item Refusal) (n : Cursor) → read_step (lowered (record { item = x; next = n })) ≡ record { item = x; next = n }
unfolding read-value read-item read_step
read_back (Ok (End p)) n = refl
read_back (Ok (Marker a x y e)) n = refl
read_back (Ok (Value v)) n = refl
read_back (Ok (Field i a v)) n = refl
read_back (Err e) n = refused_back e.reason e.position n

one_value : (x y : Step) → lowered x ≡ lowered y → x ≡ y
one_value = one_by lowered read_step (λ x. read_back x.item x.next)

-- the step that has a given answer
value_of : Spans → EncodedValue
value_of v =
    record {
      byte = v.byte;
      start = v.start;
      annotations = v.annotations;
      descriptor = v.descriptor;
      body = v.body;
      end = v.end;
    }

item_of : Answer → Item
item_of (finish p) = End p
item_of (marker a x y e) = Marker a x y e
item_of (value v) = Value (value_of v)
item_of (field i a v) = Field i a (value_of v)

item_told : (i : Answer) → places_of (item_of i) ≡ i
unfolding item_of value_of
item_told (finish p) = refl
item_told (marker a x y e) = refl
item_told (value v) = refl
item_told (field i a v) = refl

item_back : (i : Item) → item_of (places_of i) ≡ i
unfolding item_of value_of
item_back (End p) = refl
item_back (Marker a x y e) = refl
item_back (Value v) = refl
item_back (Field i a v) = refl

abbrev items : Reading (Result Item Refusal) (Outcome Answer)
items = told_by places_of item_of item_told item_back

made : Stepped → Step
made r = record { item = items.made r.answer; next = r.next }

made_read : (x : Step) → made (step_read x) ≡ x
unfolding made
made_read x = ap (λ (i : Result Item Refusal). record { item = i; next = x.next }) (items.made_read x.item)

known : (r : Stepped) → (step_read (made r) ≡ r) ⊎ ((y : Step) → step_read y ≡ r → ⊥)
unfolding made
known r = go (items.known r.answer)
  where
    go : (item_read (items.made r.answer) ≡ r.answer) ⊎ ((y : Result Item Refusal) → item_read y ≡ r.answer → ⊥) → (step_read (made r) ≡ r) ⊎ ((y : Step) → step_read y ≡ r → ⊥)
    go (inl e) = inl (ap (λ (o : Outcome Answer). record { answer = o; next = r.next }) e)
    go (inr n) = inr (λ y e. n y.item (ap (λ (x : Stepped). x.answer) e))

-- a step of no place
with_item : Result Item Refusal → Step
with_item i = record { item = i; next = cursor 0 0 }

differ : with_item items.one ≡ with_item items.other → ⊥
unfolding with_item
differ e = items.differ (ap (λ (x : Step). x.item) e)

abbrev steps : Reading Step Stepped
steps = record {
  read = step_read;
  made = made;
  made_read = made_read;
  known = known;
  one = with_item items.one;
  other = with_item items.other;
  differ = differ;
}

-- runs go with the answers
pub map-run {ℓ} : {A : Cursor → Stepped → Type ℓ} {B : Cursor → Stepped → Type 0} → ((c : Cursor) (r : Stepped) → A c r → B c r) → {c : Cursor} {rs : List Stepped} → Run A c rs → Run B c rs
map-run f none = none
map-run f (call {c} {r} a run) = call (f c r a) (map-run f run)

-- and so does what calls reach
map-part {ℓ} : {A : Rules → Cursor → Stepped → Type ℓ} {B : Rules → Cursor → Stepped → Type 0} → ((rules : Rules) (c : Cursor) (r : Stepped) → A rules c r → B rules c r) → {lo₀ hi₀ lo hi : ℕ} {rules : Rules} → Part A lo₀ hi₀ rules lo hi → Part B lo₀ hi₀ rules lo hi
map-part f the_stream = the_stream
map-part f (inner {rules} part run among of is) = inner (map-part f part) (map-run (f rules) run) among of is

map-handed {ℓ} : {A : Rules → Cursor → Stepped → Type ℓ} {B : Rules → Cursor → Stepped → Type 0} → ((rules : Rules) (c : Cursor) (r : Stepped) → A rules c r → B rules c r) → {lo₀ hi₀ lo hi : ℕ} {rules : Rules} {i : Answer} → Handed A lo₀ hi₀ rules lo hi i → Handed B lo₀ hi₀ rules lo hi i
map-handed f {rules = rules} h =
    record { part = map-part f h.part; calls = h.calls; run = map-run (f rules) h.run; among = h.among }

map-annotations {ℓ} : {A : ℕ → Outcome Annotated → Type ℓ} {B : ℕ → Outcome Annotated → Type 0} → ((at : ℕ) (r : Outcome Annotated) → A at r → B at r) → {at : ℕ} {rs : List (Outcome Annotated)} → AnnotationRun A at rs → AnnotationRun B at rs
map-annotations f no_more = no_more
map-annotations f (one_more {at} {r} a run) = one_more (f at r a) (map-annotations f run)

either {ℓ} : {A B : Type ℓ} {C D : Type 0} → (A → C) → (B → D) → A ⊎ B → C ⊎ D
either f g (inl a) = inl (f a)
either f g (inr b) = inr (g b)

module _ {M : Type 1} {𝓤 : Ura M} (𝓛 : Logic 𝓤) (𝓜 : Model 𝓤 𝓛.H) (𝓡 : Running 𝓤 𝓛.H 𝓜) (has : HasEntries 𝓡.env) (κs : Lfts 1) where
  -- the machine's answers to the three methods, and that each call ends: from their theorems
  open 𝓛 use {H}

  in_stream_answers : (limit : ℕ) (s : Bor (List ℕ)) (c : Cursor) → Answered 𝓛 𝓜 in-stream.signature (𝓡.env in-stream-symbol.name) κs tt lowers (c, (s, (limit, tt))) (λ x. step_read x ≡ step_of limit Stream s.now c)
  in_stream_answers limit s c =
      machine.answered 𝓛 𝓜 𝓡 in-stream.ended (𝓡.env in-stream-symbol.name) (in-stream.clauses 𝓛 𝓜.mem 𝓡.returns) (in-stream-met.met 𝓤 𝓛 𝓜 (strict 𝓤 H 𝓜 𝓡) has.in_stream) κs tt lowers steps one_value
      (c, (s, (limit, tt))) tt (step_of limit Stream s.now c) (id⊢ 𝓤 (emp 𝓤)) (λ x ws. id⊢ 𝓤 (fact 𝓤 (step_read x ≡ step_of limit Stream s.now c)))

  in_sequence_answers : (limit : ℕ) (s : Bor (List ℕ)) (c : Cursor) → Answered 𝓛 𝓜 in-sequence.signature (𝓡.env in-sequence-symbol.name) κs tt lowers (c, (s, (limit, tt))) (λ x. step_read x ≡ step_of limit Sequence s.now c)
  in_sequence_answers limit s c =
      machine.answered 𝓛 𝓜 𝓡 in-sequence.ended (𝓡.env in-sequence-symbol.name) (in-sequence.clauses 𝓛 𝓜.mem 𝓡.returns) (in-sequence-met.met 𝓤 𝓛 𝓜 (strict 𝓤 H 𝓜 𝓡) has.in_sequence) κs tt lowers steps one_value
      (c, (s, (limit, tt))) tt (step_of limit Sequence s.now c) (id⊢ 𝓤 (emp 𝓤)) (λ x ws. id⊢ 𝓤 (fact 𝓤 (step_read x ≡ step_of limit Sequence s.now c)))

  in_struct_answers : (limit : ℕ) (s : Bor (List ℕ)) (c : Cursor) → Answered 𝓛 𝓜 in-struct.signature (𝓡.env in-struct-symbol.name) κs tt lowers (c, (s, (limit, tt))) (λ x. step_read x ≡ step_of limit Fields s.now c)
  in_struct_answers limit s c =
      machine.answered 𝓛 𝓜 𝓡 in-struct.ended (𝓡.env in-struct-symbol.name) (in-struct.clauses 𝓛 𝓜.mem 𝓡.returns) (in-struct-met.met 𝓤 𝓛 𝓜 (strict 𝓤 H 𝓜 𝓡) has.in_struct) κs tt lowers steps one_value
      (c, (s, (limit, tt))) tt (step_of limit Fields s.now c) (id⊢ 𝓤 (emp 𝓤)) (λ x ws. id⊢ 𝓤 (fact 𝓤 (step_read x ≡ step_of limit Fields s.now c)))

  -- each answer of the program is the one that the rules define
  pub answers : (limit : ℕ) (rules : Rules) (s : Bor (List ℕ)) (c : Cursor) (r : Stepped) → Program 𝓛 𝓜 𝓡.env κs limit rules s c r → Answers limit rules s.now c r
  answers limit Stream s c r p = sym p.2 ∙ (in_stream_answers limit s c).returned p.0 p.1
  answers limit Sequence s c r p = sym p.2 ∙ (in_sequence_answers limit s c).returned p.0 p.1
  answers limit Fields s c r p = sym p.2 ∙ (in_struct_answers limit s c).returned p.0 p.1

  -- and each call ends with it
  step_ends : (limit : ℕ) (rules : Rules) (s : Bor (List ℕ)) (c : Cursor) → StepEnds 𝓛 𝓜 𝓡.env κs limit rules s c
  step_ends limit Stream s c = (in_stream_answers limit s c).ends
  step_ends limit Sequence s c = (in_sequence_answers limit s c).ends
  step_ends limit Fields s c = (in_struct_answers limit s c).ends

  pub program_ends : ProgramEnds 𝓛 𝓜 𝓡.env κs
  program_ends =
      record {
        steps = step_ends;
        annotation = λ s at end. (annotation_answers 𝓛 𝓜 𝓡 has κs s at end).ends;
        entering = λ limit s lo hi at. (entering_answers 𝓛 𝓜 𝓡 has κs limit s lo hi at).ends;
        reading = λ limit s lo hi at. (reading_answers 𝓛 𝓜 𝓡 has κs limit s lo hi at).ends;
      }

  pub program_tiling : ProgramTiling 𝓛 𝓜 𝓡.env κs
  program_tiling limit rules s lo hi rs run = tiling limit rules s.now lo hi rs (map-run (answers limit rules s) run)

  bytes_read : (limit : ℕ) (s : Bor (List ℕ)) (lo hi at : ℕ) (r : List ℕ) → BytesRead 𝓛 𝓜 𝓡.env κs limit s lo hi at r → r ≡ scalar_part limit s.now lo hi at
  unfolding scalar_part
  bytes_read limit s lo hi at r p = p.2 ∙ ap (part_of s.now) (reads 𝓛 𝓜 𝓡 has κs limit s lo hi at p.0 p.1)

  -- what the program's answers reach and hand out, they do by the rules
  module _ (limit : ℕ) (s : Bor (List ℕ)) where
    on : (rules : Rules) (c : Cursor) (r : Stepped) → Program 𝓛 𝓜 𝓡.env κs limit rules s c r → Answers limit rules s.now c r
    on rules = answers limit rules s

    by_program : Stands (ByProgram 𝓛 𝓜 𝓡.env κs limit s)
    by_program =
        record {
          value = λ rules lo hi rs i v k run m. (by_rules limit s.now).value rules lo hi rs i v k (map-run (on rules) run) m;
          pad = λ rules lo hi rs p run m. (by_rules limit s.now).pad rules lo hi rs p (map-run (on rules) run) m;
        }

    site : {lo₀ hi₀ : ℕ} {x : Site} → ReachedSite limit s.now (ByProgram 𝓛 𝓜 𝓡.env κs limit s).step lo₀ hi₀ x → ReachedSite limit s.now (ByRules limit s.now).step lo₀ hi₀ x
    site (reached_value h k) = reached_value (map-handed on h) k
    site (reached_pad {rules} h) =
        reached_pad (record { part = map-part on h.part; calls = h.calls; run = map-run (on rules) h.run; among = h.among })

  pub program_overwriting : ProgramOverwriting 𝓛 𝓜 𝓡.env κs
  program_overwriting limit s s' lo₀ hi₀ Chosen sites agree =
      record {
        steps = λ rules lo hi pt out rs rs' c. same.steps rules lo hi (part pt) out rs rs' (calls c);
        pads = λ rules lo hi pt out rs rs' c. same.pads rules lo hi (part pt) out rs rs' (calls c);
        annotations = λ rules lo hi v h bytes rs rs' n run run'.
            same.annotations rules lo hi v (valued h) bytes rs rs' n
            (map-annotations (annotates 𝓛 𝓜 𝓡 has κs s v.descriptor) run) (map-annotations (annotates 𝓛 𝓜 𝓡 has κs s' v.descriptor) run');
        identifiers = λ rules lo hi v h at bytes r r' a a'.
            same.identifiers rules lo hi v (valued h) at bytes r r'
            (annotates 𝓛 𝓜 𝓡 has κs s v.descriptor at r a) (annotates 𝓛 𝓜 𝓡 has κs s' v.descriptor at r' a');
        kept = λ rules lo hi v h other. same.kept rules lo hi v (valued h) other;
        enterings = λ rules lo hi v h at entry r r' a a'.
            same.enterings rules lo hi v (valued h) at entry r r' (enters 𝓛 𝓜 𝓡 has κs limit s lo hi at r a) (enters 𝓛 𝓜 𝓡 has κs limit s' lo hi at r' a');
        readings = λ rules lo hi v h other at entry r r' a a'.
            same.readings rules lo hi v (valued h) other at entry r r' (reads 𝓛 𝓜 𝓡 has κs limit s lo hi at r a) (reads 𝓛 𝓜 𝓡 has κs limit s' lo hi at r' a');
        parts = λ rules lo hi v h other at entry r r' a a'.
            same.parts rules lo hi v (valued h) other at entry r r' (bytes_read limit s lo hi at r a) (bytes_read limit s' lo hi at r' a');
        owner = λ rules lo hi pt i v k x rs rs' c. same.owner rules lo hi (part pt) i v k x rs rs' (calls c);
        pad = λ rules lo hi pt p x rs rs' c. same.pad rules lo hi (part pt) p x rs rs' (calls c);
      }
    where
      same : SameOutside (ByRules limit s.now) (ByRules limit s'.now) lo₀ hi₀ Chosen
      same =
          (overwriting limit s.now s'.now lo₀ hi₀ Chosen
          (record { reached = λ x c. site limit s (sites.reached x c); none_inside = sites.none_inside }) agree).1

      part : {rules : Rules} {lo hi : ℕ} → EitherPart (ByProgram 𝓛 𝓜 𝓡.env κs limit s) (ByProgram 𝓛 𝓜 𝓡.env κs limit s') lo₀ hi₀ rules lo hi → EitherPart (ByRules limit s.now) (ByRules limit s'.now) lo₀ hi₀ rules lo hi
      part pt = either (map-part (on limit s)) (map-part (on limit s')) pt

      valued : {rules : Rules} {lo hi : ℕ} {v : Spans} → ValueOutside (ByProgram 𝓛 𝓜 𝓡.env κs limit s) (ByProgram 𝓛 𝓜 𝓡.env κs limit s') lo₀ hi₀ Chosen rules lo hi v → ValueOutside (ByRules limit s.now) (ByRules limit s'.now) lo₀ hi₀ Chosen rules lo hi v
      valued h = record { item = h.item; handed = either (map-handed (on limit s)) (map-handed (on limit s')) h.handed; is = h.is; outside = h.outside }

      calls : {rules : Rules} {lo hi : ℕ} {rs rs' : List Stepped} → Calls (ByProgram 𝓛 𝓜 𝓡.env κs limit s) (ByProgram 𝓛 𝓜 𝓡.env κs limit s') lo₀ hi₀ rules lo hi rs rs' → Calls (ByRules limit s.now) (ByRules limit s'.now) lo₀ hi₀ rules lo hi rs rs'
      calls {rules} c = record { many = c.many; run = map-run (on limit s rules) c.run; run' = map-run (on limit s' rules) c.run' }

  pub program_one_body : ProgramOneBody 𝓛 𝓜 𝓡.env κs
  program_one_body limit s s' lo₀ hi₀ b e =
      one_of_many (ByProgram 𝓛 𝓜 𝓡.env κs limit s) (ByProgram 𝓛 𝓜 𝓡.env κs limit s') (by_program limit s) (by_program limit s') lo₀ hi₀
      (program_overwriting limit s s' lo₀ hi₀)
