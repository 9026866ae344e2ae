pub mod Pending
pub mod Reading
pub mod Tree
pub mod Windows
pub mod Free
pub mod Sweep
pub mod Groups
