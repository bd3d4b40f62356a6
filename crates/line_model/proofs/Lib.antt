pub mod OnLiterals
pub mod Numbers
pub mod Datagrams
pub mod Spaces
pub mod Lengths
pub mod Fields
pub mod PrintedLines
pub mod LineTexts
pub mod GeneratedLines
mod examples
