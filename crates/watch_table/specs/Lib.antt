-- What a table of watched queries shows, how each call changes it, and the observers that it stands
-- for (RFC 7641, this project's profile).
pub mod WatchedQueries
pub mod Outcomes
pub mod ObserverCounts
pub mod Slots
-- Prints of texts. By them, most queries that a change does not touch are skipped.
pub mod Prints
