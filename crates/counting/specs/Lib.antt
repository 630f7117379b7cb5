pub mod Pads
pub mod Counted
pub mod Bounded
pub mod Read
pub mod Meaning
pub mod BoundedRuns
pub mod Theorems
