-- What a look gives, by what is found, and what it does that gives this (LookLaws).
pub mod LookLaws
