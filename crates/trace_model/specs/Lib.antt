-- The output of a trace, and of a generated trace (this project's trace format).
pub mod Steps
pub mod Output
pub mod Made
