pub mod Walk
pub mod Calls
pub mod Theorems
pub mod Private
