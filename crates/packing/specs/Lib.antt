pub mod Tree
pub mod Packed
pub mod Meant
pub mod Answers
pub mod Read
pub mod Theorems
pub mod Private
