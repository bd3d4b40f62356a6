-- References: a text has one reading, and the offset of its first fault is the length of its
-- longest prefix that begins a reference. Reading: `ReferenceCuts` cuts a text at its first mark,
-- `ReferenceMarks` has which marks a component cannot have, `ReferenceReading` that the components
-- of a recomposed text are those it was put together from, and `ReferenceLaws` that what is taken
-- apart is put together again. Faults: `LongestPrefixes` has the longest prefix (`IsLongest`) and
-- how it is found in the parts of a text; `FaultTexts`, `FaultHosts`, `FaultPaths` and
-- `FaultSchemes` have it for each kind of component, from the smallest on, and `ReferenceFaultLaws`
-- for the whole.
-- `OnLiterals` is what an example unfolds; `examples` has the computed ones.
pub mod ReferenceCuts
pub mod ReferenceMarks
pub mod ReferenceReading
pub mod ReferenceLaws
pub mod LongestPrefixes
pub mod FaultTexts
pub mod FaultHosts
pub mod FaultPaths
pub mod FaultSchemes
pub mod ReferenceFaultLaws
pub mod OnLiterals
mod examples
