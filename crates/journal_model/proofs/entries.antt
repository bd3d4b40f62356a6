pub mod QuietSteps
pub mod ChangeEntries
pub mod ResponseEntries
pub mod EntryOrigins
pub mod RowLaws
pub mod JournalLaws
pub mod CommitPlaces
