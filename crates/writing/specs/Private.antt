-- Definitions that only private functions' contracts cite: a reader of the crate needs none of them.
pub mod Inner
