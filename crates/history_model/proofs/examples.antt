mod LeaseExamples
mod ListingExamples
mod ReplaceExamples
mod SourceExamples
mod LimitExamples
mod TextExamples
