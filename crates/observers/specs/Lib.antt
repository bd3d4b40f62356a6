-- What a table of observers shows, and the events and transitions that it stands for (RFC 7641, RFC
-- 7252 sections 4.2 and 4.7).
pub mod Standing
pub mod ObserverEvents
pub mod AwaitedPeers
