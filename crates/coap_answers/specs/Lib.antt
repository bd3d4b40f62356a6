-- What an outbox shows, and what a part of a step sends.
pub mod Outboxes
pub mod Sendings
-- What a reply says, and a message while it is written (RFC 7252 sections 3.1 and 5.2, RFC 7641
-- section 4.2).
pub mod Replies
pub mod Writing
-- The requested block (RFC 7959 section 2.2).
pub mod AskedBlocks
