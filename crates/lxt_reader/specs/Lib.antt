pub mod Asking
pub mod Changing
pub mod Reading
