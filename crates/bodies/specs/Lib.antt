pub mod Utf8
pub mod Widen
pub mod Uint
pub mod Magnitude
pub mod Decimal
pub mod Private
