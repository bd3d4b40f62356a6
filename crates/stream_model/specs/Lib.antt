-- A message, and its one spelling (RFC 8323 section 3.2).
pub mod Messages
-- Why a message is bad, and by which octets that is known (RFC 8323 sections 3.2, 5.2, 5.3 and
-- 5.3.1, RFC 7252 section 3).
pub mod Faults
-- What octets contain (RFC 8323 section 3.2).
pub mod Judging
-- The stream as a relation, and octet by octet (RFC 8323 sections 3.2 and 3.3).
pub mod Streams
