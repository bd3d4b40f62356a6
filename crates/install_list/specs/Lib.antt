pub mod Words
pub mod Lists
pub mod Printing
pub mod Endings
pub mod Sendable
