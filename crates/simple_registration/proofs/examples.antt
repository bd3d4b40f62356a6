mod CallExamples
