pub mod Leading
pub mod BigEndian
pub mod Widening
pub mod Rows
pub mod Encoding
pub mod Library
pub mod Splitting
