-- ClockLemmas: what the numbers of a clock's list are.
pub mod ClockLemmas
