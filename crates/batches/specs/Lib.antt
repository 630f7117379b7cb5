pub mod Steps
pub mod Theorems
pub mod Private
