-- Proofs of the code that reads query options. NumberLaws, BaseLaws: single values. OctetFaults,
-- RuleLaws: why one option is refused. WalkLaws: the first fault, option by option. Choices,
-- ParametersKept, OptionsKept: what is kept of options. Results, LookupResults: what the calls
-- answer. FaultlessLaws: options without a fault.
pub mod NumberLaws
pub mod BaseLaws
pub mod OctetFaults
pub mod WalkLaws
pub mod RuleLaws
pub mod Choices
pub mod ParametersKept
pub mod Results
pub mod OptionsKept
pub mod LookupResults
pub mod FaultlessLaws
