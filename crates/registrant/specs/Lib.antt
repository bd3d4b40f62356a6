-- The message of a request while it is built (RFC 7252 section 3).
pub mod Asking
-- A request with the Echo value of a challenge (RFC 9175).
pub mod Echoes
-- Parts of a URI as options (RFC 7252 section 6.4).
pub mod Parts
-- What is stored of a request, and what it stands for (RFC 7252 section 4.2).
pub mod Talking
-- What a datagram and a tick mean for a request (RFC 7252 sections 4.2 and 5.3.2).
pub mod Hearing
-- What one receive takes and sends (RFC 7252 section 4.2).
pub mod Turns
-- What the future of a request returns (RFC 9176 section 5).
pub mod Giving
-- How that future starts, and from what it can be polled.
pub mod Telling
