pub mod Cut
pub mod InTurn
pub mod Known
pub mod LinesLemmas
pub mod Pieces
pub mod Progress
