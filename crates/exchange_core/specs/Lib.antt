-- Buckets of exchanges, and how exchanges are found by them.
pub mod Buckets
-- What a table of exchanges stands for, and what happens to a write that is passed to it (RFC 7252
-- section 4.5).
pub mod ExchangeEvents
-- What is due of a message that awaits an acknowledgement, and what is stored of it (RFC 7252
-- section 4.2).
pub mod Retransmissions
-- Their parts.
pub mod Table
