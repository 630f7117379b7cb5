pub mod TextsStay
pub mod ProgramTexts
