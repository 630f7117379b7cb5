pub mod Within
pub mod Putting
