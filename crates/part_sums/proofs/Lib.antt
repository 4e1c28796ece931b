pub mod SumLemmas
pub mod NumberLemmas
pub mod EndLemmas
pub mod HeadLemmas
pub mod TailLemmas
pub mod AnswerLemmas
pub mod TakingLemmas
pub mod JoinLemmas
pub mod RefusalLemmas
pub mod FoundLemmas
mod SumExamples
