pub mod Lines
pub mod Examples
pub mod Placing
pub mod Stepping
pub mod Left
pub mod Calls
