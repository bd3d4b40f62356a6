-- JournalLaw: what the steps of a trace make is a journal of the machine. OutputLaws: what is
-- written is the text of that journal. OutputLines and OnLiterals serve the traces in examples.
pub mod OnLiterals
pub mod OutputLines
pub mod JournalLaw
pub mod OutputLaws
mod examples
