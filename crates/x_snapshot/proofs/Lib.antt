pub mod PositionLemmas
pub mod BreakLemmas
pub mod WriterLemmas
pub mod ChoiceLemmas
pub mod ReadLemmas
pub mod BackLemmas
pub mod ProblemBack
pub mod BreakBack
pub mod WholeBack
pub mod ReadFaults
pub mod LineAgain
pub mod ProblemAgain
pub mod BreakAgain
pub mod WholeAgain
pub mod JudgedLemmas
mod JudgedExamples
mod SnapshotExamples
