-- The uploads of a table as lists: UploadLists. What they stand for: UploadEvents. The kept answers
-- of a table as lists: KeptLists; by their numbers: NumberLaws. What they stand for: KeptEvents.
-- The table as a whole, for the desk: TransferLaws.
pub mod UploadLists
pub mod UploadEvents
pub mod KeptLists
pub mod KeptEvents
pub mod NumberLaws
pub mod BlockLaws
pub mod KeptShown
pub mod TransferLaws
mod examples
