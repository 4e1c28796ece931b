mod StreamExamples
mod Transfer
mod Walks
mod LawLemmas
