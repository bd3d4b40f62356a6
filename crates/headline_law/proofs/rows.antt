pub mod TickRows
pub mod TaggedAnswers
pub mod RowCarries
pub mod LookupRows
pub mod KeepRows
pub mod Validations
pub mod AnswersAsFormed
