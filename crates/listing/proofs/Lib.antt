-- Proofs of the code that lists one registration. PatternLaws, PartCuts, PartSizes, SoughtLaws,
-- LinkFilterLaws: criteria and links. EndpointLaws: criteria and endpoints. PieceLaws: lines of
-- endpoints, piece by piece. StepLaws, PartLaws: the lines of a registration. AlikeLaws,
-- SamePartLaws: when those of two are the same. OwnLaws: the directory's own links.
pub mod PatternLaws
pub mod EndpointLaws
pub mod PieceLaws
pub mod PartLaws
pub mod StepLaws
pub mod OwnLaws
pub mod SamePartLaws
pub mod PartCuts
pub mod PartSizes
pub mod AlikeLaws
pub mod SoughtLaws
pub mod LinkFilterLaws
