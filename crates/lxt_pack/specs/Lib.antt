pub mod Symbols
pub mod Change
