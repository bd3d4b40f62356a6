pub mod ReportedOutcomes
pub mod SettledNotes
pub mod CommitAnswers
pub mod AdmittedRows
pub mod StarvedRows
pub mod SingleAnswers
pub mod AnsweredAlike
