-- Proofs of the code (DistinctLaws), and what distinct criteria have in common with all: the tests
-- that all pass, those that are among them (TestLaws), and the lines of a registration (PartLaws).
pub mod DistinctLaws
pub mod TestLaws
pub mod PartLaws
