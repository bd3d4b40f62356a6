pub mod Numbers
pub mod Datagrams
-- Lines of a trace (this project's trace format).
pub mod Lines
pub mod Texts
-- The generated trace (this project's generator).
pub mod Generator
