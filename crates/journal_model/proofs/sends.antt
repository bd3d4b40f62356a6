pub mod BodyAnswers
pub mod ValidSends
pub mod PlainSteps
pub mod TickSends
