-- VoiceLaws: what is written, one after the other. FlightLaws: the octets of a request and of a
-- Pong. MeaningLaws: what a message means. PieceLaws: the octets that are not yet used. CourseLaws:
-- the course of a request, step by step. DecidedLaws: how it ends, by the octets of the source.
pub mod VoiceLaws
pub mod FlightLaws
pub mod MeaningLaws
pub mod PieceLaws
pub mod CourseLaws
pub mod DecidedLaws
mod Examples
