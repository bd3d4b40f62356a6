-- Lemmas that the standard library lacks, one subject a file: tests (Booleans, Choices), Numbers,
-- Options, what holds of each element (Each), of each two (Pairs), of the elements of a list
-- (Among, Contains), the first that passes a test (Firsts), what filters keep (Filters,
-- Partitions), and lists that are made one element after the other (Lists).
pub mod Booleans
pub mod Choices
pub mod Numbers
pub mod Options
pub mod Each
pub mod Pairs
pub mod Among
pub mod Filters
pub mod Lists
pub mod Contains
pub mod Partitions
pub mod Firsts
