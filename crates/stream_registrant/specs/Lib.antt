-- The octets that were read and not yet used.
pub mod Pieces
-- What a message of the directory means for a request (RFC 8323 sections 3.4 and 5, RFC 9176
-- section 5).
pub mod Answers
-- What is written to a connection (RFC 8323 sections 3.2 and 5).
pub mod Saying
-- What is done for a message.
pub mod Hearing
-- The course of a request over a connection, and how it ends.
pub mod Courses
