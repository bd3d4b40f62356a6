-- The code that reads and resolves references, against the definitions of reference_model. A folder
-- in lower case has the proof of the functions of the source file of its name. Reading: `CutLaws`
-- for cuts at the first mark, `ReachLaws` for how far a component goes, `AllowedComponents` for the
-- components of a text, and `KnownReferences` for one that is not judged again. Resolving:
-- `Segments` for the segments of a path, `KeptSegments` for those that are kept without dot
-- segments, `LastSlash` for a path cut at its end, `PathGrowth` for a path that is appended segment
-- by segment, and `MergedPaths` for the path of a reference after that of the base.
pub mod CutLaws
pub mod ReachLaws
pub mod AllowedComponents
pub mod KnownReferences
pub mod Segments
pub mod KeptSegments
pub mod LastSlash
pub mod PathGrowth
pub mod MergedPaths
pub mod PlainPaths
