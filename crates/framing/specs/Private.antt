-- Definitions that only private functions' contracts cite: a reader of the crate needs none of them.
pub mod Peeked
pub mod Located
pub mod InlineLengths
pub mod ShortLength
