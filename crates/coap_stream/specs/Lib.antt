-- The purpose of a message, how a seat handles it, and why it is answered without a seat (RFC 8323
-- sections 3.4 and 5, RFC 9176 section 5).
pub mod Requests
-- The two manners of a conversation (RFC 8323 sections 5.3 to 5.6).
pub mod Manners
-- What is written (RFC 8323 section 3.2).
pub mod Spoken
-- The calls that a connection makes on its seat; `rd_seat` has those of every caller.
pub mod Calls
-- What is written for a message, and the calls that it leads to (RFC 8323 sections 3.2 to 3.4 and
-- 5).
pub mod Talks
pub mod Made
pub mod Answered
-- A conversation and how it ends, and the invariants of its loops (RFC 8323 sections 3.3 and 5).
pub mod Endings
pub mod Talking
-- Duplicates among the requests of a connection (RFC 7252 sections 4.5 and 4.8.2).
pub mod Duplicates
-- How many requests octets pass to the seat (RFC 8323 section 3.3, this project's profile).
pub mod Asked
-- Connections that are served one after the other.
pub mod Serving
