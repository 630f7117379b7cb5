-- Results back from what they are read as: a refusal back from its number, where a reason has that number.
-- Assumes nothing.
use Prim.Native.Nat.{ℕ}
use native.Mathlib.Omega.{arith}
use mathlib.Core.Path.{◌≡◌, refl, ◌∙◌, sym, ap}
use mathlib.Core.List.{[], ◌∷◌}
use mathlib.Core.Logic.{◌⊎◌, inl, inr}
use lib.Dec.{eqb}
use borrow.Author.Tests.{eqb-true, eqb-false}
use Rattle.std.specs.Prelude.{Result, Ok, Err}
use Rattle.numbers.specs.Outcome.{Outcome, gives, refuses}
use Rattle.numbers.specs.Refusals.{number_of}
use Rattle.numbers.specs.Read.{outcome}
use Rattle.numbers.specs.declared.refusal.Refusal.{Refusal}
use Rattle.numbers.specs.declared.refusal.Reason.{Reason}
use Rattle.numbers.specs.declared.refusal.Reason.TheVariants.{NoValueLeft, MarkerCut, VarUIntCut, VarIntCut, AnnotationsCut, PadCut, FieldCut, ValueCut}
use Rattle.numbers.specs.declared.refusal.Reason.TheVariants.{IntCut, NumberTooLong, BadMarker, NotAValue, NoAnnotations, AnnotationsTooLong, NoRoomForValue}
use Rattle.numbers.specs.declared.refusal.Reason.TheVariants.{TooManyAnnotations, WrapperInWrapper, PadInWrapper, WrappedLengthDiffers, BadFloatLength}
use Rattle.numbers.specs.declared.refusal.Reason.TheVariants.{TimestampTooShort, EmptyOrderedStruct, BadBool, NegativeZeroInt, SymbolTooLong, BadUtf8}
use Rattle.numbers.specs.declared.refusal.Reason.TheVariants.{TooDeep, NotVersion10, HourWithoutMinute, TimestampOutOfRange, CoefficientTooLong, HasImports}
use Rattle.numbers.specs.declared.refusal.Reason.TheVariants.{SecondSymbols, Outside, RecordTooShort, NotAContainer, InputTooLong, NotTheSystemText, NoPadsAllowed}
use Rattle.numbers.specs.declared.refusal.Reason.TheVariants.{LimitOutOfRange, NoRoomToPack, NoRoomToWrite, NoSuchLength}
use Rattle.numbers.proofs.Outcomes.{by_case}
use Rattle.runs.proofs.Machine.{Reading}
use Rattle.runs.proofs.Values.{choose}

-- the reason that has a number, and some reason where none has it
reason_of : ℕ → Reason
reason_of n =
    choose n
    (
    NoValueLeft ∷ NoValueLeft ∷ MarkerCut ∷ VarUIntCut ∷ VarIntCut ∷ AnnotationsCut ∷ PadCut ∷ FieldCut ∷ ValueCut ∷ IntCut ∷ NoValueLeft
    ∷ NoValueLeft ∷ NoValueLeft ∷ NoValueLeft ∷ NoValueLeft ∷ NoValueLeft ∷ NoValueLeft ∷ NoValueLeft ∷ NoValueLeft ∷ NoValueLeft ∷ NumberTooLong
    ∷ BadMarker ∷ NotAValue ∷ NoAnnotations ∷ AnnotationsTooLong ∷ NoRoomForValue ∷ TooManyAnnotations ∷ WrapperInWrapper ∷ PadInWrapper
    ∷ WrappedLengthDiffers ∷ BadFloatLength ∷ TimestampTooShort ∷ EmptyOrderedStruct ∷ BadBool ∷ NegativeZeroInt ∷ SymbolTooLong ∷ BadUtf8 ∷ TooDeep
    ∷ NoValueLeft ∷ NoValueLeft ∷ NoValueLeft ∷ NoValueLeft ∷ NoValueLeft ∷ NoValueLeft ∷ NoValueLeft ∷ NoValueLeft ∷ NoValueLeft ∷ NoValueLeft
    ∷ NoValueLeft ∷ NoValueLeft ∷ Outside ∷ RecordTooShort ∷ NotAContainer ∷ NoValueLeft ∷ InputTooLong ∷ NoValueLeft ∷ NoValueLeft ∷ NoValueLeft
    ∷ NoValueLeft ∷ NoValueLeft ∷ NotVersion10 ∷ HourWithoutMinute ∷ TimestampOutOfRange ∷ CoefficientTooLong ∷ HasImports ∷ SecondSymbols
    ∷ NotTheSystemText ∷ NoPadsAllowed ∷ LimitOutOfRange ∷ NoRoomToPack ∷ NoRoomToWrite ∷ []
    )
    NoSuchLength

reason_is : (r : Reason) → reason_of (number_of r) ≡ r
unfolding reason_of
reason_is NoValueLeft = refl
reason_is MarkerCut = refl
reason_is VarUIntCut = refl
reason_is VarIntCut = refl
reason_is AnnotationsCut = refl
reason_is PadCut = refl
reason_is FieldCut = refl
reason_is ValueCut = refl
reason_is IntCut = refl
reason_is NumberTooLong = refl
reason_is BadMarker = refl
reason_is NotAValue = refl
reason_is NoAnnotations = refl
reason_is AnnotationsTooLong = refl
reason_is NoRoomForValue = refl
reason_is TooManyAnnotations = refl
reason_is WrapperInWrapper = refl
reason_is PadInWrapper = refl
reason_is WrappedLengthDiffers = refl
reason_is BadFloatLength = refl
reason_is TimestampTooShort = refl
reason_is EmptyOrderedStruct = refl
reason_is BadBool = refl
reason_is NegativeZeroInt = refl
reason_is SymbolTooLong = refl
reason_is BadUtf8 = refl
reason_is TooDeep = refl
reason_is NotVersion10 = refl
reason_is HourWithoutMinute = refl
reason_is TimestampOutOfRange = refl
reason_is CoefficientTooLong = refl
reason_is HasImports = refl
reason_is SecondSymbols = refl
reason_is Outside = refl
reason_is RecordTooShort = refl
reason_is NotAContainer = refl
reason_is InputTooLong = refl
reason_is NotTheSystemText = refl
reason_is NoPadsAllowed = refl
reason_is LimitOutOfRange = refl
reason_is NoRoomToPack = refl
reason_is NoRoomToWrite = refl
reason_is NoSuchLength = refl

-- there is one refusal, and there is another
abbrev pub one : Refusal
one = record { reason = NoValueLeft; position = 0 }

abbrev pub other : Refusal
other = record { reason = MarkerCut; position = 0 }

pub differ : {A : Type 0} → ◌≡◌ {A = Result A Refusal} (Err one) (Err other) → ⊥
differ e = absurd (let z : one ≡ other = cc in let n : ◌≡◌ {A = ℕ} 1 2 = ap (λ (r : Refusal). number_of r.reason) z in omega arith)

-- what is told of a value, and the value of what is told
module _ {A B : Type 0} (told : A → B) (untold : B → A) (told_back : (b : B) → told (untold b) ≡ b) (back : (a : A) → untold (told a) ≡ a) where
  pub made : Outcome B → Result A Refusal
  made (gives b) = Ok (untold b)
  made (refuses n p) = Err (record { reason = reason_of n; position = p })

  pub made_read : (y : Result A Refusal) → made (outcome told y) ≡ y
  unfolding made
  made_read (Ok a) = ap Ok (back a)
  made_read (Err e) = ap (λ (r : Reason). Err (record { reason = r; position = e.position })) (reason_is e.reason)

  -- what is read as this, or that nothing is
  pub known : (o : Outcome B) → (outcome told (made o) ≡ o) ⊎ ((y : Result A Refusal) → outcome told y ≡ o → ⊥)
  unfolding made
  known (gives b) = inl (ap gives (told_back b))
  known (refuses n p) =
      by_case (eqb (number_of (reason_of n)) n)
      (λ t. inl (ap (λ (k : ℕ). refuses k p) (eqb-true (number_of (reason_of n)) n t)))
      (λ t. inr (none (eqb-false (number_of (reason_of n)) n t)))
    where
      none : (number_of (reason_of n) ≡ n → ⊥) → (y : Result A Refusal) → outcome told y ≡ refuses n p → ⊥
      none d (Ok a) e = absurd (let z : ◌≡◌ {A = ℕ} 0 1 = cc in omega arith)
      none d (Err r) e =
          let q : number_of r.reason ≡ n = cc in
          d (ap (λ (k : ℕ). number_of (reason_of k)) (sym q) ∙ ap number_of (reason_is r.reason) ∙ q)

  abbrev pub told_by : Reading (Result A Refusal) (Outcome B)
  told_by = record {
    read = outcome told;
    made = made;
    made_read = made_read;
    known = known;
    one = Err one;
    other = Err other;
    differ = differ;
  }
