pub mod Changes
pub mod Plan
