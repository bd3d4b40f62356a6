-- What a table of fetches stands for, what a response and a tick do to it (RFC 9176 section 5.1,
-- RFC 7959 section 2.4, RFC 7252 section 4.2); what a table of challenges stands for (RFC 9175
-- section 2.3).

pub mod Responses
pub mod Running
pub mod Hearing
pub mod Table
pub mod FetchEvents
pub mod Sendable
pub mod Challenges
