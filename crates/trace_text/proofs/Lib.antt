pub mod NumberTexts
pub mod FirstBytes
pub mod FieldCuts
pub mod LineFields
pub mod ReadLines
mod GeneratedTexts
mod GeneratedRequests
pub mod GeneratedReading
