pub mod Powers
pub mod Gregorian
pub mod Ranges
pub mod FieldReading
pub mod Stamping
pub mod StampMoving
pub mod Stamps
