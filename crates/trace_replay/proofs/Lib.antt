-- Texts: Cuts (by a separator), SentLines (of what is sent), LineFeeds (lines), Fronts (the
-- beginnings of a text).
-- Steps: DeskSteps (the journal with the row of a step is one of a desk), JobRows (what a worker
-- holds and drew after its own row),
--   OtherWorkers (what it leaves of the others), WorkerSteps (what the desk made of a call is the
--   step), MachineLaws (the machine after a line), EachWorker (lists by index).
-- A replay: JournalRuns (its journal is that of its steps), LineDone (one line), Journeys (pieces
-- of a trace), LastLines (its end), ReportLaws (status), ReplayLaws (the whole).
-- A made trace: MadeCounts (what is counted of its lines).
-- Words: OptionSteps (one after the other), OptionValues (their numbers), WordLaws (what they ask
-- for), ClapReads (what clap reads in them).
pub mod OtherWorkers
pub mod EachWorker
pub mod MachineLaws
pub mod GeneratedTexts
pub mod GeneratedMessages
pub mod GeneratedTraces
pub mod Cuts
pub mod LineDone
pub mod LineFeeds
pub mod SentLines
pub mod JournalRuns
pub mod Fronts
pub mod Journeys
pub mod LastLines
pub mod ReportLaws
pub mod ReplayLaws
pub mod DeskSteps
pub mod JobRows
pub mod WorkerSteps
pub mod ClapReads
pub mod OptionSteps
pub mod OptionValues
pub mod WordLaws
pub mod MadeCounts
pub mod MadeTexts
mod examples
