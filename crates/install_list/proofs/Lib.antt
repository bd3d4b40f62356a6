-- TextFronts: prefixes of texts. ReportLaws: what is reported of a status. SendLaws: which requests
-- can be sent. ListLaws: lines of a text, read one after another. LineLaws: the request of a line.
-- PutLaws: lines that were written. EndLaws: which status an ending has, and which count rose.
pub mod TextFronts
pub mod ReportLaws
pub mod SendLaws
pub mod ListLaws
pub mod LineLaws
pub mod PutLaws
pub mod EndLaws
