pub mod Fields
pub mod LineResults
