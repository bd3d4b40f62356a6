mod EntryExamples
