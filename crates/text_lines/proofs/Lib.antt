pub mod LineLemmas
pub mod WordLemmas
pub mod NumberLemmas
pub mod WritingLemmas
pub mod PlainLemmas
pub mod SpacedLemmas
pub mod ResultLemmas
pub mod EachLemmas
pub mod ReadingLemmas
pub mod FirstFaultLemmas
pub mod FirstByteLemmas
pub mod TextWordLemmas
mod LineExamples
mod NumberExamples
mod WritingExamples
mod EachExamples
mod ReadingExamples
