-- Options of a command line, and the arguments of both programs.
pub mod Options
pub mod Words
-- What clap reads, and what a session stands for (this project's trace format).
pub mod CommandLines
pub mod Sessions
-- What these are made of: texts, the journal of a trace, the machine, statuses, the counts of a
-- generated trace, and reasons.
pub mod Fields
pub mod Journal
pub mod Machines
pub mod Endings
pub mod MadeRuns
pub mod Faults
