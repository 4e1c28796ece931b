pub mod NumberLemmas
pub mod AccountLemmas
pub mod StopLemmas
mod SearchLemmas
mod SoonLemmas
mod FirstLemmas
pub mod ResumeLemmas
pub mod ToldLemmas
pub mod JoinedLemmas
pub mod AddedLemmas
pub mod ClassifiedLemmas
pub mod UpToLemmas
mod PathLemmas
mod MatrixLemmas
mod PackingLemmas
mod ShownLemmas
mod CoverListLemmas
mod ListedLemmas
mod EndingLemmas
mod DebugLemmas
mod OutputExamples
mod PackedExamples
mod UpToExamples
mod MatrixExamples
mod JobExamples
mod RunExamples
mod TableExamples
