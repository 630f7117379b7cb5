pub mod Exported
pub mod Packed
