pub mod Snapshot
pub mod Faults
pub mod Refusals
pub mod Writer
pub mod Reader
pub mod ReadRefusals
pub mod Judged
