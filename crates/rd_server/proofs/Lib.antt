mod examples
pub mod service
