pub mod TagStates
pub mod EntryChanges
pub mod CommitLaws
pub mod Admissions
pub mod Failures
pub mod FailedLaws
pub mod HoldsEachOnce
