pub mod Calendar
pub mod Timestamp
pub mod TimestampMeaning
pub mod Private
