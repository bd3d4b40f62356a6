-- The result of an entry, its refusals, what lapses, and what a sweep leaves (RFC 9176 section 5).

-- Cursors over carriers that advance alternately.
pub mod Races
-- A page of a listing while it is written, and the lines of live records (RFC 9176 section 6).
pub mod Pages
-- Their parts.
pub mod Changes
pub mod Answers
pub mod LapseOrder
pub mod NumberOrder
pub mod NameSlots
pub mod LiveCounts
pub mod Shown
pub mod Boards
pub mod Bounds
pub mod Lapsing
pub mod AfterEntries
pub mod EntryAnswers
pub mod Swept
pub mod IndexedPairs
pub mod LinksAgainst
