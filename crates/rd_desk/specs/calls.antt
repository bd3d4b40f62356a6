-- The contracts of a desk's calls.
--
-- - what a desk shows and the journal that it stands for: Desks, Shown
-- - a call as a step, and how a step ends: Steps, Stepping
-- - the result of a datagram, and what a tick needs: Admitting, Ticking
-- - the job of a write: WriteJobs
-- - what a step leaves staged on the board: Staging
-- - an observer as it is shown: ShownObservers.

-- What a desk shows and the journal that it stands for, a call as a step, and how a step ends.
pub mod Desks
pub mod Steps
pub mod Stepping
-- What a desk shows with its board, what a step leaves staged there, and an observer as it is shown
-- (this project's profile, RFC 7641).
pub mod Shown
pub mod Staging
pub mod ShownObservers
-- What the job of a write shows (RFC 7252 section 4.5).
pub mod WriteJobs
-- What an admission leaves, and when it allocates (RFC 7252 section 4).
pub mod Admitting
-- When a tick allocates (RFC 7641 section 4.2, RFC 7252 section 4.7).
pub mod Ticking
