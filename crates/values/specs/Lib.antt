pub mod Scalars
pub mod Timestamps
pub mod Meaning
pub mod Read
pub mod Edges
pub mod Private
