-- The resources that requests are about, and the message of a request that is not refused (RFC 9176
-- sections 4 to 6).
pub mod Resources
pub mod Accepted
-- What a request asks, and the refusals that it alone decides (RFC 7252 sections 5.4.1 and 5.5.2).
pub mod Asking
-- Which requests write (RFC 9176 sections 5, 5.1 and 5.3).
pub mod WriteRequests
-- What a datagram is to the directory (RFC 7252 section 4).
pub mod Incoming
-- The request that a job stores.
pub mod KeptRequests
