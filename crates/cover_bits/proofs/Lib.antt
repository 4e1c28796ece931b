pub mod BitLemmas
pub mod PartLemmas
pub mod RestLemmas
pub mod WalkLemmas
pub mod CountLemmas
pub mod ListLemmas
pub mod LeftLemmas
pub mod TableLemmas
pub mod ChooseLemmas
pub mod PassLemmas
pub mod WriteLemmas
pub mod GoneLemmas
pub mod TurnLemmas
pub mod NewLemmas
mod BitExamples
