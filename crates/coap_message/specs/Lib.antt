pub mod OptionsAt
pub mod Views
pub mod Headers
pub mod OptionsLeft
pub mod PartialMessages
pub mod SpelledMessages
pub mod Writers
pub mod WriterEnds
