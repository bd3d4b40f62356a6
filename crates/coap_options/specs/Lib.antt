pub mod Definitions
pub mod Segments
pub mod Findings
pub mod Meanings
pub mod ValuesLeft
pub mod PartRefusals
