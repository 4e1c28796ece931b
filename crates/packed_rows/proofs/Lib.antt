pub mod KnownLemmas
pub mod NeighbourLemmas
pub mod NumberLemmas
pub mod PieceLemmas
pub mod RopeLemmas
pub mod RowLemmas
mod NeighbourExamples
mod PieceExamples
