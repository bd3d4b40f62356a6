-- The parts of a step, which no call shows.
--
-- - a step in progress: UnderWay
-- - received datagrams: Hearing, Responding, Lookups
-- - answers to writes, and the purpose of their links: Replies, Purposes
-- - a write as it is planned, settled and staged on the board: Outcomes, Committing, Laying
-- - a beginning: Beginnings
-- - the parts of a tick: Noticing, Planning, Resending.

-- A step in progress.
pub mod UnderWay
-- A write on receipt, a listing that is built and kept, and a client that asks to observe (RFC 7252
-- section 4.5, RFC 7959 section 2.4, RFC 7641 section 4.1).
pub mod Hearing
pub mod Lookups
-- What a response to a fetch does if memory suffices (RFC 9176 section 5.1).
pub mod Responding
-- The settling or failure of an admitted write, what is planned for it, and its answer (RFC 7252
-- sections 4.2 and 4.5, RFC 9176 section 5).
pub mod Committing
pub mod Outcomes
pub mod Replies
-- The purpose of the links of a body (RFC 9176 sections 5 and 5.3.3).
pub mod Purposes
-- What a part of a step stages on the board.
pub mod Laying
-- The entry that a beginning makes ready (this project's profile).
pub mod Beginnings
-- What a tick does with a notification in flight (RFC 7641 section 4.5).
pub mod Noticing
-- What a tick does with the requests of fetches, what it plans for its notifications, and how it
-- carries out a plan (RFC 7252 section 4.2, RFC 7641 section 4.2).
pub mod Resending
pub mod Planning
