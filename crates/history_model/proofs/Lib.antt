-- The laws of histories. ReplayLaws, LegalLaws: a history entry by entry. Acceptance: what an
-- accepted entry does. NumberLaws, NameLaws, LocationLaws, GoneLaws: numbers and names of
-- registrations. LimitLaws: how many there are, and how much they weigh. TagOctets, TagLaws,
-- ListingLaws: entity tags and listings. SweepLaws, VersionLaws: what may be dropped, and what a
-- version of the directory stands for. LinesByNumber, ChangedLines, VersionParts: what changes the
-- lines of a query. Samples, HistoryLiterals and examples/: histories computed.
pub mod ReplayLaws
pub mod LegalLaws
pub mod NumberLaws
pub mod Acceptance
pub mod NameLaws
pub mod SweepLaws
pub mod LimitLaws
pub mod TagOctets
pub mod TagLaws
pub mod VersionLaws
pub mod LocationLaws
pub mod ListingLaws
pub mod GoneLaws
pub mod LinesByNumber
pub mod ChangedLines
pub mod VersionParts
pub mod HistoryLiterals
pub mod Samples
mod examples
