-- Histories of a lock, the rule of the turn, and its steps.
pub mod Histories
pub mod Rule
pub mod Steps
-- What contracts read of a pass and of a lock.
pub mod Shown
-- Their parts.
pub mod Passes
pub mod Endings
