pub mod RuleLemmas
pub mod RuleExamples
pub mod StealLemmas
pub mod CountLemmas
pub mod JoinLemmas
mod SeatExamples
