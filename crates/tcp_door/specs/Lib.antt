-- Peers that stand for connections (RFC 6666).
pub mod Peers
-- What a listener opens.
pub mod Doors
-- How long a peer sends no message (RFC 8323 sections 3.3, 5.5 and 5.6).
pub mod Waiting
-- Doors of several workers, each with peers of its own.
pub mod Lanes
-- One wait of a source.
pub mod Awaiting
