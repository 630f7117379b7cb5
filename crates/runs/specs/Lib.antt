pub mod Reached
pub mod Overwritten
pub mod Theorems
pub mod Machine
pub mod Program
