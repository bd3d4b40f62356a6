-- Serving: the receives of workers, what they send, what they count, and how a server ends.
pub mod Sendings
pub mod Calls
pub mod Workers
pub mod Turns
pub mod Sums
pub mod Service
pub mod Servers
pub mod Plans
pub mod Endings
