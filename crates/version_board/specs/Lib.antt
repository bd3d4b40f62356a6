-- The book of a board and the step that enters an entry. The name of a board, and the rule by which
-- its ends know it. The published version, and the ends as contracts see them.
pub mod Books
pub mod Names
pub mod Contents
pub mod Ends
pub mod Samples
