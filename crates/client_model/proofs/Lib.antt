-- RequestLaws: how long the datagram of an ask is. AskLaws: an ask that is made can be sent.
-- DeadlineLaws: the deadlines are those of any message that waits. OnLiterals opens the
-- definitions, so that the examples compute.
pub mod RequestLaws
pub mod AskLaws
pub mod DeadlineLaws
pub mod OnLiterals
mod examples
