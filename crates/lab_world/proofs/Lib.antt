pub mod HoldLemmas
pub mod OtherLemmas
pub mod OwnLemmas
pub mod TurnLemmas
pub mod LeaseLemmas
pub mod PostLemmas
pub mod SplitLemmas
pub mod EventLemmas
pub mod AloneLemmas
pub mod WorldLemmas
mod WorldExamples
