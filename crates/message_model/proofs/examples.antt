pub mod CodeExamples
pub mod BlockExamples
pub mod ReadingExamples
pub mod RequestExamples
