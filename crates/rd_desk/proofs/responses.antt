pub mod FetchStepLaws
pub mod FetchingLaws
pub mod ResponseLaws
