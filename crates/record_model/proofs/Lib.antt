-- The laws of records. AllowedLaws: parameters without a fault are allowed. Addresses, PeerBases:
-- the base of a peer is a base. BodyLaws: faults of bodies. MatchingLaws: patterns. WeightLaws:
-- what records weigh. LineLaws: lines that are the same. RecordLiterals and examples/: definitions
-- computed on octets that are written out.
pub mod Addresses
pub mod AllowedLaws
pub mod BodyLaws
pub mod MatchingLaws
pub mod PeerBases
pub mod RecordLiterals
pub mod WeightLaws
pub mod LineLaws
mod examples
