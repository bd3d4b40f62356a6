pub mod NoteOrigins
pub mod InventionLaws
pub mod KeptAnswerLaws
pub mod ReplyCodes
pub mod StepRequests
pub mod AskedRequests
pub mod ChallengeLaws
pub mod EchoLaws
