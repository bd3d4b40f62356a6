pub mod LengthLemmas
pub mod MessageLaws
pub mod ReadingLaws
pub mod StreamLaws
mod Examples
