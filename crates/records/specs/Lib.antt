pub mod Buffer
pub mod Kinds
pub mod FirstWords
pub mod Read
pub mod Words
pub mod SymbolWords
pub mod Theorems
