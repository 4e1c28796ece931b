pub mod Worker
pub mod World
pub mod Alone
