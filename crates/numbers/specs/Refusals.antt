-- The number of each reason for a refusal: 1 to 9 whoever cut the bytes short, 20 to 37 and 60 to 65 whoever wrote them, 50 to 54 and 66 to 71 whoever calls.
-- Assumes nothing.
use Rattle.std.specs.Prelude.{ℕ}
use Rattle.numbers.specs.declared.refusal.Reason.{Reason}
use Rattle.numbers.specs.declared.refusal.Reason.TheVariants.{NoValueLeft, MarkerCut, VarUIntCut, VarIntCut, AnnotationsCut, PadCut, FieldCut, ValueCut}
use Rattle.numbers.specs.declared.refusal.Reason.TheVariants.{IntCut, NumberTooLong, BadMarker, NotAValue, NoAnnotations, AnnotationsTooLong, NoRoomForValue}
use Rattle.numbers.specs.declared.refusal.Reason.TheVariants.{TooManyAnnotations, WrapperInWrapper, PadInWrapper, WrappedLengthDiffers, BadFloatLength}
use Rattle.numbers.specs.declared.refusal.Reason.TheVariants.{TimestampTooShort, EmptyOrderedStruct, BadBool, NegativeZeroInt, SymbolTooLong, BadUtf8}
use Rattle.numbers.specs.declared.refusal.Reason.TheVariants.{TooDeep, NotVersion10, HourWithoutMinute, TimestampOutOfRange, CoefficientTooLong, HasImports}
use Rattle.numbers.specs.declared.refusal.Reason.TheVariants.{SecondSymbols, Outside, RecordTooShort, NotAContainer, InputTooLong, NotTheSystemText}
use Rattle.numbers.specs.declared.refusal.Reason.TheVariants.{NoPadsAllowed, LimitOutOfRange, NoRoomToPack, NoRoomToWrite, NoSuchLength}

abbrev pub number_of : Reason → ℕ
number_of NoValueLeft = 1
number_of MarkerCut = 2
number_of VarUIntCut = 3
number_of VarIntCut = 4
number_of AnnotationsCut = 5
number_of PadCut = 6
number_of FieldCut = 7
number_of ValueCut = 8
number_of IntCut = 9
number_of NumberTooLong = 20
number_of BadMarker = 21
number_of NotAValue = 22
number_of NoAnnotations = 23
number_of AnnotationsTooLong = 24
number_of NoRoomForValue = 25
number_of TooManyAnnotations = 26
number_of WrapperInWrapper = 27
number_of PadInWrapper = 28
number_of WrappedLengthDiffers = 29
number_of BadFloatLength = 30
number_of TimestampTooShort = 31
number_of EmptyOrderedStruct = 32
number_of BadBool = 33
number_of NegativeZeroInt = 34
number_of SymbolTooLong = 35
number_of BadUtf8 = 36
number_of TooDeep = 37
number_of NotVersion10 = 60
number_of HourWithoutMinute = 61
number_of TimestampOutOfRange = 62
number_of CoefficientTooLong = 63
number_of HasImports = 64
number_of SecondSymbols = 65
number_of Outside = 50
number_of RecordTooShort = 51
number_of NotAContainer = 52
number_of InputTooLong = 54
number_of NotTheSystemText = 66
number_of NoPadsAllowed = 67
number_of LimitOutOfRange = 68
number_of NoRoomToPack = 69
number_of NoRoomToWrite = 70
number_of NoSuchLength = 71
