-- how many messages ended so far
pub mod HeedingLaws
