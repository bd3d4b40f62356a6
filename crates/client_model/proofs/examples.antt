mod VerdictExamples
mod AskExamples
