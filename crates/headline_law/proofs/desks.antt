pub mod TraceJournals
