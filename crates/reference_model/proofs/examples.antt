-- Computed examples of the definitions.
mod ReferenceExamples
mod ResolutionExamples
