pub mod Windows
pub mod Faults
pub mod Padding
pub mod Keeping
