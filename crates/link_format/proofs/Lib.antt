-- The code that reads link documents, against the definitions of link_model. A folder in lower case
-- has the proof of the functions of the source file of its name. Checking a body: `StayLemmas` for
-- octets that leave a walk where it is, `WalkLemmas` for the walk over its octets, `CheckLemmas`
-- for what is then known of it. Links and parameters: `CutLemmas` for cuts at a separator,
-- `PassedTexts` for the parts of a link in which no cut falls, `LinkLaws` for the parts of the
-- first link,
-- `LinkSteps` and `ParameterSteps` for one step of each iterator. Values: `ValueLemmas`.
pub mod StayLemmas
pub mod WalkLemmas
pub mod CheckLemmas
pub mod CutLemmas
pub mod PassedTexts
pub mod LinkLaws
pub mod LinkSteps
pub mod ParameterSteps
pub mod ValueLemmas
