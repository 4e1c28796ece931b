pub mod Lists
pub mod Answers
pub mod Workers
