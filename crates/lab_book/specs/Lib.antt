pub mod States
pub mod Tile
pub mod Tiling
pub mod Book
pub mod Calls
pub mod Index
pub mod Posted
pub mod Totals
