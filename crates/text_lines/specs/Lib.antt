pub mod Lines
pub mod Numbers
pub mod Writing
pub mod Writes
pub mod Each
pub mod Answers
pub mod Reading
