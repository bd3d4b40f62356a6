-- Histories, live records, listings, tags, sources, refusals, versions (RFC 9176 sections 5 and
-- 6, this project's profile).

pub mod Leases
pub mod Names
pub mod Replay
pub mod Live
pub mod Listing
pub mod Refusals
pub mod Legal
pub mod Versions
pub mod Sources
pub mod ChangedParts
