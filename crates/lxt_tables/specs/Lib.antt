pub mod Stage
pub mod Asked
pub mod Steps
pub mod Parts
