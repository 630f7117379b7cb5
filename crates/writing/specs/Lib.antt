pub mod Things
pub mod Answers
pub mod Read
pub mod Theorems
pub mod Back
pub mod Judged
pub mod Private
