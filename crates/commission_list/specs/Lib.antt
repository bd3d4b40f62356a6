-- The requests of a list as text (RFC 9176 section 5).
pub mod Lists
-- What became of a request, as text.
pub mod Printing
-- Statuses and their texts.
pub mod Endings
-- What becomes of a list, and what is written of it.
pub mod Makings
