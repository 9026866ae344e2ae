pub mod Calls
pub mod Carrying
