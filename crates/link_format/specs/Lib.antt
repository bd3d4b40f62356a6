-- The definitions of the contracts beyond link_model: points of the grammar, octets due in UTF-8,
-- cuts, parts, and the views of links.
pub mod Points
pub mod Ranges
pub mod Staying
pub mod Cuts
pub mod Parts
pub mod LinksOfText
pub mod Views
