-- What a clock returns of its lists, what a list exposes before and after a call, and the peer at a
-- socket's address (RFC 768, RFC 4291, this project's profile).
pub mod Clocks
pub mod Told
pub mod Addresses
-- The results of a receive and a send, and what then holds of a link (RFC 768, this project's
-- profile).
pub mod Links
-- Their parts.
pub mod Plans
pub mod Orders
