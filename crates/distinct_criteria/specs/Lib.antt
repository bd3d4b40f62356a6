-- The criteria of a query, each once (RFC 9176 section 6.2).
pub mod Distinct
