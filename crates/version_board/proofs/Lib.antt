-- Beginnings of one list, of which one is the beginning of the other: Fronts. The step that enters
-- an entry into the book: Steps. What a try answers: Tries. Copies of what is shown: Contents. The
-- registration of the tests and of the bench: Sampled.
pub mod Fronts
pub mod Steps
pub mod Tries
pub mod Contents
pub mod Sampled
