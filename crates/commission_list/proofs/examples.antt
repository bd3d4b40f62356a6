mod ListExamples
mod LineExamples
