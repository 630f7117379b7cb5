-- How results are read back from machine values.
-- Assumes nothing.
use Prim.Native.Nat.{ℕ, zero, suc}
use mathlib.Core.Path.{◌≡◌, refl, ◌∙◌, sym, ap}
use mathlib.Core.Bool.{Bool, false}
use mathlib.Core.List.{List, [], ◌∷◌}
use mir.Val.{Val, Vals, vunit, vbool, vint, vfloat, vptr, vstruct, vcode, vnil, vcons}
use Rattle.std.specs.Prelude.{Option, None, Some, Result, Ok, Err}
use Rattle.numbers.specs.declared.refusal.Refusal.{Refusal}
use Rattle.numbers.specs.declared.refusal.Reason.{Reason}
use Rattle.numbers.specs.declared.refusal.Reason.TheVariants.{NoValueLeft, MarkerCut, VarUIntCut, VarIntCut, AnnotationsCut, PadCut, FieldCut, ValueCut}
use Rattle.numbers.specs.declared.refusal.Reason.TheVariants.{IntCut, NumberTooLong, BadMarker, NotAValue, NoAnnotations, AnnotationsTooLong, NoRoomForValue}
use Rattle.numbers.specs.declared.refusal.Reason.TheVariants.{TooManyAnnotations, WrapperInWrapper, PadInWrapper, WrappedLengthDiffers, BadFloatLength}
use Rattle.numbers.specs.declared.refusal.Reason.TheVariants.{TimestampTooShort, EmptyOrderedStruct, BadBool, NegativeZeroInt, SymbolTooLong, BadUtf8}
use Rattle.numbers.specs.declared.refusal.Reason.TheVariants.{TooDeep, NotVersion10, HourWithoutMinute, TimestampOutOfRange, CoefficientTooLong, HasImports}
use Rattle.numbers.specs.declared.refusal.Reason.TheVariants.{SecondSymbols, Outside, RecordTooShort, NotAContainer, InputTooLong, NotTheSystemText, NoPadsAllowed}
use Rattle.numbers.specs.declared.refusal.Reason.TheVariants.{LimitOutOfRange, NoRoomToPack, NoRoomToWrite, NoSuchLength}
use Rattle.numbers.proofs.refusal.Refusal.TheLaws.{lowered}
use Rattle.numbers.proofs.refusal.Reason.TheLaws as reason-laws

-- a number, a bool and a struct's parts, as the machine has them
abbrev pub num : Val → ℕ
num vunit = 0
num (vbool b) = 0
num (vint w n) = n
num (vfloat f x) = 0
num (vptr k o) = 0
num (vstruct vs) = 0
num (vcode k) = 0

abbrev pub bit : Val → Bool
bit vunit = false
bit (vbool b) = b
bit (vint w n) = false
bit (vfloat f x) = false
bit (vptr k o) = false
bit (vstruct vs) = false
bit (vcode k) = false

abbrev pub parts : Val → Vals
parts vunit = vnil
parts (vbool b) = vnil
parts (vint w n) = vnil
parts (vfloat f x) = vnil
parts (vptr k o) = vnil
parts (vstruct vs) = vs
parts (vcode k) = vnil

abbrev pub nth : ℕ → Vals → Val
nth k vnil = vunit
nth zero (vcons v vs) = v
nth (suc k) (vcons v vs) = nth k vs

abbrev pub field : ℕ → Val → Val
field i v = nth i (parts v)

-- the case of an enum that its tag names, of those given in order; the last one serves for every later tag
abbrev pub choose : {A : Type 0} → ℕ → List A → A → A
choose k [] z = z
choose zero (a ∷ rest) z = a
choose (suc k) (a ∷ rest) z = choose k rest z

abbrev pub read_reason : Val → Reason
read_reason v =
    choose (num (field 0 v))
    (
    NoValueLeft ∷ MarkerCut ∷ VarUIntCut ∷ VarIntCut ∷ AnnotationsCut ∷ PadCut ∷ FieldCut ∷ ValueCut ∷ IntCut ∷ NumberTooLong ∷ BadMarker
    ∷ NotAValue ∷ NoAnnotations ∷ AnnotationsTooLong ∷ NoRoomForValue ∷ TooManyAnnotations ∷ WrapperInWrapper ∷ PadInWrapper ∷ WrappedLengthDiffers
    ∷ BadFloatLength ∷ TimestampTooShort ∷ EmptyOrderedStruct ∷ BadBool ∷ NegativeZeroInt ∷ SymbolTooLong ∷ BadUtf8 ∷ TooDeep ∷ NotVersion10
    ∷ HourWithoutMinute ∷ TimestampOutOfRange ∷ CoefficientTooLong ∷ HasImports ∷ SecondSymbols ∷ Outside ∷ RecordTooShort ∷ NotAContainer
    ∷ InputTooLong ∷ NotTheSystemText ∷ NoPadsAllowed ∷ LimitOutOfRange ∷ NoRoomToPack ∷ NoRoomToWrite ∷ []
    )
    NoSuchLength

abbrev pub read_refusal : Val → Refusal
read_refusal v = record { reason = read_reason (field 0 v); position = num (field 1 v) }

-- a result that may be refused, and one that may be nothing
abbrev pub read_result : {A : Type 0} → (Val → A) → Val → Result A Refusal
read_result f v = choose (num (field 0 v)) (Ok (f (field 1 v)) ∷ []) (Err (read_refusal (field 1 v)))

abbrev pub read_option : {A : Type 0} → (Val → A) → Val → Option A
read_option f v = choose (num (field 0 v)) (None ∷ []) (Some (f (field 1 v)))

pub refusal_back : (e : Refusal) → read_refusal (lowered e) ≡ e
refusal_back e = ap (λ (r : Reason). record { reason = r; position = e.position }) (reason_back e.reason)
  where
    reason_back : (r : Reason) → read_reason (reason-laws.lowered r) ≡ r
    reason_back NoValueLeft = refl
    reason_back MarkerCut = refl
    reason_back VarUIntCut = refl
    reason_back VarIntCut = refl
    reason_back AnnotationsCut = refl
    reason_back PadCut = refl
    reason_back FieldCut = refl
    reason_back ValueCut = refl
    reason_back IntCut = refl
    reason_back NumberTooLong = refl
    reason_back BadMarker = refl
    reason_back NotAValue = refl
    reason_back NoAnnotations = refl
    reason_back AnnotationsTooLong = refl
    reason_back NoRoomForValue = refl
    reason_back TooManyAnnotations = refl
    reason_back WrapperInWrapper = refl
    reason_back PadInWrapper = refl
    reason_back WrappedLengthDiffers = refl
    reason_back BadFloatLength = refl
    reason_back TimestampTooShort = refl
    reason_back EmptyOrderedStruct = refl
    reason_back BadBool = refl
    reason_back NegativeZeroInt = refl
    reason_back SymbolTooLong = refl
    reason_back BadUtf8 = refl
    reason_back TooDeep = refl
    reason_back NotVersion10 = refl
    reason_back HourWithoutMinute = refl
    reason_back TimestampOutOfRange = refl
    reason_back CoefficientTooLong = refl
    reason_back HasImports = refl
    reason_back SecondSymbols = refl
    reason_back Outside = refl
    reason_back RecordTooShort = refl
    reason_back NotAContainer = refl
    reason_back InputTooLong = refl
    reason_back NotTheSystemText = refl
    reason_back NoPadsAllowed = refl
    reason_back LimitOutOfRange = refl
    reason_back NoRoomToPack = refl
    reason_back NoRoomToWrite = refl
    reason_back NoSuchLength = refl

-- what is read back from its machine value is one where the machine value is
pub one_by : {A : Type 0} (lower : A → Val) (read : Val → A) → ((x : A) → read (lower x) ≡ x) → (x y : A) → lower x ≡ lower y → x ≡ y
one_by lower read back x y e = sym (back x) ∙ ap read e ∙ back y
