pub mod CodeLemmas
pub mod ReaderLemmas
pub mod HistoryExamples
