pub mod Known
pub mod Neighbours
pub mod Numbers
pub mod Pieces
pub mod Rows
