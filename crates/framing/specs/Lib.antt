pub mod Limits
pub mod Spans
pub mod Format
pub mod Answers
pub mod Meaning
pub mod ShortValue
pub mod Read
pub mod Private
