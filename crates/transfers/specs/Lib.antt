-- Uploads and kept answers as lists (RFC 7959).
pub mod Uploading
pub mod Keeping
-- The answer to a block after events, the events that a table of transfers stands for (RFC 7959
-- sections 2.4, 2.5 and 2.9).
pub mod TransferEvents
pub mod BlockAnswers
-- Their parts.
pub mod Ends
