mod LawLemmas
mod LineExamples
