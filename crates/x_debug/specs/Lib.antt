pub mod Session
pub mod Questions
pub mod Commands
pub mod LoadedTexts
