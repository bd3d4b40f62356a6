-- An outbox with one datagram more (OutboxLaws), what may be written next of a reply
-- (ReplyWriting), and that what is sent is what an effect sends (SendingLaws).
pub mod OutboxLaws
pub mod ReplyWriting
pub mod SendingLaws
