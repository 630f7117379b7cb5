pub mod Exported
pub mod Forms
