pub mod SessionLemmas
pub mod BreakLemmas
pub mod CommandLemmas
pub mod LoadLemmas
pub mod OpenLemmas
mod CommandExamples
