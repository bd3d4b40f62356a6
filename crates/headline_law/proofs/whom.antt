pub mod RunningFetches
pub mod Dispatches
pub mod TickDispatches
pub mod GoesRows
pub mod WhomLaws
