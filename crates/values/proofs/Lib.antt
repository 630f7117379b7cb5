pub mod Tests
pub mod Valued
pub mod Reading
pub mod Edges
pub mod Meanings
