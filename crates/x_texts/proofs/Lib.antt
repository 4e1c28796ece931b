pub mod WordLemmas
pub mod DigitLemmas
pub mod EndLemmas
pub mod WrittenLemmas
mod WordExamples
mod WrittenExamples
