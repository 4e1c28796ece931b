pub mod Faults
pub mod Pool
pub mod Worker
