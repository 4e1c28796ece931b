pub mod WalkLemmas
mod StepLemmas
mod CostExamples
