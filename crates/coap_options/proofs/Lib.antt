mod PathLemmas
mod FindingLemmas
mod OptionOrder
mod OptionWalks
mod ValueLengths
mod ValuesLemmas
mod RefusalLemmas
mod KeyLemmas
mod KeysApart
pub mod MeaningLaws
