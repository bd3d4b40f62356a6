-- JudgeLaws: what a line asks for. ListLaws: lines of a text, judged one after the other.
-- Fronts: fronts of texts. ReportLaws: what is said of a status. MakingLaws: what was printed, poll
-- after poll, and what the making of a list comes to. WrongMakings: endings that are wrong, which
-- nothing here cites. examples: lists and lines of output, computed.
pub mod JudgeLaws
pub mod ListLaws
pub mod Fronts
pub mod ReportLaws
pub mod MakingLaws
pub mod WrongMakings
mod examples
