mod EndLaws
mod LinkLaws
mod NetworkNames
mod OptionSteps
mod ShareLaws
mod examples
pub mod Crossing
