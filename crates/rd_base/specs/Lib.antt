-- The octets of a text, wherever they are.
pub mod Spelled
-- What a call of an input or output may return (this project's profile).
pub mod Outside
-- Peers as text (RFC 5952).
pub mod Peers
-- The base of a peer (RFC 9176 section 5).
pub mod Bases
pub mod Prefixes
-- Which calls of a source or a sink in memory fail (this project's profile).
pub mod Plans
pub mod Firsts
-- The line of a link, as it is listed and as it was submitted (RFC 6690 section 2, RFC 9176 section
-- 6.4).
pub mod LinkLines
-- Parts of a text that grows, links by the spans of their parts, what a builder of links holds, and
-- borrowed parts (this project's profile).
pub mod Spans
pub mod LinkTexts
pub mod Drafted
pub mod PairRefs
