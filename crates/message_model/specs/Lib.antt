pub mod Numbers
pub mod Codes
-- A message, its one spelling, and its reading (RFC 7252 section 3).
pub mod Message
pub mod Spelling
pub mod Reading
-- The option table (RFC 7252 sections 5.4 and 5.10, RFC 7641 section 2, RFC 7959 section 2).
pub mod OptionTable
-- Blocks, and what a block continues (RFC 7959 sections 2.2 and 2.5).
pub mod Blocks
pub mod Uploads
-- The parts of a request, and its first refusals (RFC 7252 section 5, RFC 9176).
pub mod Request
pub mod Refusals
-- The key of a request.
pub mod RequestKey
-- The request of a fetch, and what a response to it says (RFC 9176 section 5.1, RFC 7959 section
-- 2.4).
pub mod FetchRequests
pub mod Responses
