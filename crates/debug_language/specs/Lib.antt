pub mod Faults
pub mod Question
pub mod Command
pub mod Reader
pub mod Replies
