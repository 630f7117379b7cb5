pub mod SameSteps
pub mod SameBytes
pub mod TextsStay
pub mod ProgramTexts
