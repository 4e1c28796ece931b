pub mod Faults
pub mod Answers
pub mod Parts
pub mod Reading
pub mod Refusals
pub mod Taking
pub mod Joining
