-- The contracts of a desk's calls (calls), and the parts of a step (parts).
pub mod calls
pub mod parts
