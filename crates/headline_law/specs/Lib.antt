-- The sentences of the headline that are claims about any journal by themselves, one in each file
-- (RFC 7252, RFC 7959, RFC 9175, RFC 9176).

-- The moment of a row is the greatest that was passed in so far.
pub mod Moments
-- Simple registrations that answered a challenge, which are part of two sentences.
pub mod AnsweredChallenges
-- A fetch starts for a simple registration, and blocks arrived in datagrams of their peer.
pub mod NothingInvented
-- A block is read only from a kept answer that is young, and among those that were used last.
pub mod KeptAnswers
-- The directory sends a request only if a challenge was answered.
pub mod EchoedFirst
-- The recipients of requests of the directory, of Resets and of empty acknowledgements (RFC 7252
-- sections 4.2 and 5.2.2, RFC 9176 section 5.1).
pub mod SentToWhom
-- The answers to writes. A write is answered once, as the request wants it, and a duplicate gets
-- the same answer (RFC 7252 sections 4.5 and 5.2, RFC 9176 section 5).
pub mod AnsweredAlike
-- The observers. A response that carries Observe makes an observer, which ends only for a reason
-- (RFC 7641 sections 3.1, 3.6, 4.1 and 4.5).
pub mod ObserversStand
-- All of these sentences, and the five of `journal_model`.
pub mod WholeHeadline
