pub mod Steps
pub mod StepExamples
pub mod Symbols
pub mod Reals
pub mod Times
pub mod Entries
pub mod Names
pub mod Value
