mod WordExamples
