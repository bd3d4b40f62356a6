pub mod AppendedLines
pub mod Pieces
pub mod ListedLinks
pub mod OwnLinks
pub mod ValueParts
-- What a criterion seeks in links, and the links that a filter lists (RFC 6690 section 4.1, RFC
-- 9176 section 6.2).
pub mod Patterns
pub mod SoughtLinks
pub mod LinkFilters
-- Links that are alike in two states of a registration (RFC 9176 section 6.2).
pub mod AlikeLinks
-- The parts of these definitions.
pub mod JudgedEndpoints
pub mod Views
