-- Asks as requests and messages, and which can be sent (RFC 7252 sections 3 and 4.6, RFC 9176
-- section 5).
pub mod Requests
-- The asks of URIs and of locations (RFC 7252 section 6.4, RFC 9176 section 5).
pub mod Asks
-- Answers, retransmission, and the verdict (RFC 7252 sections 4.2 and 5.3.2).
pub mod Verdicts
-- What is sent (RFC 7252 section 4.2).
pub mod Sending
