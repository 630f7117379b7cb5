pub mod SystemTexts
pub mod Turns
pub mod Text
pub mod Read
pub mod TextTheorems
pub mod Private
