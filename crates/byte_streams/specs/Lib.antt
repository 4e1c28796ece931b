pub mod Stream
pub mod Input
