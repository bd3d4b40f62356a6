pub mod SpokenLaws
pub mod HeardLaws
pub mod SignalLaws
pub mod RefusingLaws
pub mod CallLaws
pub mod VoiceLaws
pub mod ShownLaws
pub mod ReaderLaws
pub mod AnsweredLaws
pub mod TalkLaws
pub mod PieceLaws
pub mod AskedLaws
mod DuplicateRows
mod DuplicateLaws
pub mod ServingLaws
mod Examples
