-- Definitions that only private functions' contracts cite, and their proofs: a reader of the crate needs none of them.
pub mod Kinds
pub mod Sizes
pub mod Bytes
pub mod Items
pub mod Fronts
pub mod Puts
