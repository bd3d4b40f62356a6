pub mod SilentSteps
pub mod ChangeNotes
pub mod BeginNotes
pub mod StepTable
pub mod LookupNotes
