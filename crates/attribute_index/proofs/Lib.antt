-- EntryLaws, CarrierLaws: for callers, what an index has and whom a cursor tells. The others serve
-- the proofs here: Lookups, what a map says of a key when a pair is put or taken; RowLaws, what
-- rows say of entries; OctetLaws, the octets of UTF-8; AbbreviationLaws, abbreviations of values,
-- which are ordered as they are and tell those that are short; WantedLaws, where the values stand
-- that a pattern matches; BoundsLaws, which abbreviations are theirs. examples: the definitions,
-- computed.
pub mod EntryLaws
pub mod CarrierLaws
mod examples
mod Lookups
mod RowLaws
mod OctetLaws
mod AbbreviationLaws
mod WantedLaws
mod BoundsLaws
