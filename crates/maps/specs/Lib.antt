pub mod Exported
pub mod Inside
pub mod Put
