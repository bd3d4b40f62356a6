pub mod OrderLaws
pub mod QueueLaws
