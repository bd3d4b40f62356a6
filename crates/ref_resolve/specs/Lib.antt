-- What the contracts say beyond `reference_model`: the components that parts show, classes of
-- characters, paths as they grow, merged paths, and paths read in one walk.
pub mod ComponentsOfParts
pub mod Classes
pub mod ComponentFaults
pub mod Paths
pub mod MergedPaths
pub mod PlainPaths
