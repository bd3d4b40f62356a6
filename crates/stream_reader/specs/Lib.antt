-- How many octets are needed (RFC 8323 section 3.2).
pub mod Wanting
-- What is stored, and what a piece does, however the stream is cut (RFC 8323 sections 3.2 and 3.3).
pub mod Reading
-- What a frame shows (RFC 8323 section 3.2, RFC 7252 section 3).
pub mod Shown
