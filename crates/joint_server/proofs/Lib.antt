-- One connection more, and their calls.
pub mod StandLaws
-- The workers of a server, one more.
pub mod PostLaws
-- The sums of workers.
pub mod LineLaws
