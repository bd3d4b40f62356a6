-- Link documents as octets (RFC 6690): characters, UTF-8, the grammar, its reading as a function,
-- and values in quotes.

-- Link documents, values, and quoted text (RFC 6690 section 2).
pub mod Documents
pub mod DocumentReading
pub mod Quoting
-- The parts of these.
pub mod Characters
pub mod Utf8Prefix
