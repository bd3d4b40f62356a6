-- Connections that one worker serves, one after another.
pub mod Standing
-- The workers of a server over UDP and TCP, and what each did.
pub mod Posts
-- What such a server writes at its end.
pub mod Lines
