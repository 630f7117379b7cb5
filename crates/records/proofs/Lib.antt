pub mod Storing
pub mod Numbers
pub mod SymbolNumbers
pub mod FirstBytes
pub mod Examples
pub mod BareWords
