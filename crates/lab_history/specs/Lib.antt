pub mod Faults
pub mod Kinds
pub mod EntryCode
pub mod Ending
pub mod History
