-- Drafts, and the records that they become (RFC 9176 section 5).
pub mod Drafts
-- Links as they were submitted (RFC 6690 section 2).
pub mod Submissions
-- The definitions that these are made of.
pub mod LinkParameters
pub mod References
pub mod Links
pub mod OtherBases
pub mod Weights
