pub mod WantingLemmas
pub mod ReaderLemmas
pub mod FeedingLaws
pub mod ShownLaws
