-- Computed examples of the definitions.
mod DocumentExamples
mod LongExamples
