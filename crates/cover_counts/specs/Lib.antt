pub mod Limbs
pub mod Levels
pub mod Below
pub mod Keys
pub mod Kept
pub mod Search
pub mod Stretch
pub mod Digits
