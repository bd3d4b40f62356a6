-- Proofs of the code that makes drafts. LinkParameterLaws, ReferenceLaws, LinkLaws: one link.
-- FaultLaws, LinksLaws: all links, and their first fault. DraftLaws: what is known of a draft.
-- WeightLaws: what it weighs. SubmissionLaws: links before there is a base. RewrittenLaws,
-- SourceLaws: the source of links is read as these links.
pub mod LinkParameterLaws
pub mod ReferenceLaws
pub mod LinkLaws
pub mod FaultLaws
pub mod LinksLaws
pub mod DraftLaws
pub mod WeightLaws
pub mod SubmissionLaws
pub mod RewrittenLaws
pub mod SourceLaws
