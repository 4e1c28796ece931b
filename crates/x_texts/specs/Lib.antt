pub mod Breaks
pub mod Ends
pub mod Words
pub mod Written
