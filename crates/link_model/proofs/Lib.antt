-- Link documents: the functions of the definitions read what the grammar spells, and nothing else.
-- Reading: `DocumentPoints` is what may be left of links at a point of the grammar, and its text.
-- `DocumentSteps` adds an octet in front (`each_step`),
-- `DocumentGoes` takes one away (`ends_or_goes`), `DocumentFound` has that what is read spells the
-- octets, and `DocumentLaws` that a document has one reading.
-- Faults: `DocumentPrefix` has that `good_prefix` is the longest prefix that begins a document.
-- `Utf8Reading` and `Utf8Found` read UTF-8 octet by octet.
-- Values: `QuotingLaws` has that a quoted text reads back. `OnLiterals` is what an example unfolds;
-- `examples` has the computed ones.
pub mod DocumentPoints
pub mod DocumentSteps
pub mod DocumentGoes
pub mod DocumentFound
pub mod DocumentLaws
pub mod DocumentPrefix
pub mod Utf8Reading
pub mod Utf8Found
pub mod QuotingLaws
pub mod OnLiterals
mod examples
