pub mod ReadLemmas
pub mod WriterLemmas
pub mod EngineLemmas
mod ReaderExamples
mod ReplyExamples
