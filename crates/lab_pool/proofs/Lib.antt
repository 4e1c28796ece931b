mod DoneLemmas
mod PoolExamples
mod WorkerExamples
mod WorkerLemmas
