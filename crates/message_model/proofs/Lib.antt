-- The laws of messages. `MessageLaws`, `LocationLaws`, `BlockLaws` and `KeyLaws` are what the
-- definitions promise: a message is read as it is spelled and back, and so are locations, Block
-- options and keys. `ReadingLaws` says what is known of a message that is read of any octets. They
-- stand on the lemmas of the parts of a spelling, from the smallest:
-- `ByteLemmas` (steps that take bytes), `OptionLemmas` (one option), `TailLemmas` (options and
-- payload), `HeaderLemmas`
-- (the first four bytes), `OrderLemmas` (one option more at the end). `TableLemmas` and
-- `ValueLemmas` are of the table of
-- options: what one option more adds to the recognized ones, and how long a value is. `Notation`
-- and `OnLiterals` serve
-- the computed `examples`.
pub mod Notation
pub mod OnLiterals
pub mod ByteLemmas
pub mod OptionLemmas
pub mod TailLemmas
pub mod HeaderLemmas
pub mod MessageLaws
pub mod ReadingLaws
pub mod LocationLaws
pub mod BlockLaws
pub mod TableLemmas
pub mod OrderLemmas
pub mod ValueLemmas
pub mod KeyLaws
mod examples
