pub mod VarUInts
pub mod Standing
pub mod Heads
pub mod Stores
