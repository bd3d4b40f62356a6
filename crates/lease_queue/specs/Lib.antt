-- Queues of leases, the leases that have lapsed (RFC 9176 section 5, this project's profile).
pub mod Leases
