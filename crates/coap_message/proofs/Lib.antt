pub mod OptionsAtLemmas
pub mod ViewLemmas
pub mod WriterLemmas
pub mod MessageSizes
