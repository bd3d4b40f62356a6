-- Observers: marks that are handed on (MarkLaws), which observer is found (WalkLaws,
-- FoundObservers), each query is watched as often as it is observed (WatchedLaws). What they stand
-- for: by its parts (WatchingParts, StandingParts) and while a row is made: nothing about them,
-- time that passes, an entry (WatchingLaws), a note about an observer (WatchingNotes), one who
-- joins (JoiningLaws), and what a tick asks (TickLaws). Updates that no lookup shows: LeaseLaws.
pub mod MarkLaws
pub mod WalkLaws
pub mod FoundObservers
pub mod LeaseLaws
pub mod WatchingParts
pub mod WatchingLaws
pub mod WatchedLaws
pub mod StandingParts
pub mod WatchingNotes
pub mod JoiningLaws
pub mod TickLaws
