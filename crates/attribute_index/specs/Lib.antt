-- Entries of attributes, and those that a pattern finds (RFC 6690 sections 2 and 4.1).
pub mod Entries
-- Numbers that order most values of attributes before their texts are compared, and stored values.
pub mod Abbreviations
pub mod Values
-- The stored form of an index: rows of values with numbers, and those that a pattern matches.
pub mod Rows
pub mod Bounds
