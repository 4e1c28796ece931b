pub mod AlikeBooks
pub mod AlikeCalls
pub mod Searched
