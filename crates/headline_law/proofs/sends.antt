pub mod PlainCommits
pub mod LookupSends
pub mod RowSends
pub mod StepOutcomes
pub mod ValidLaw
