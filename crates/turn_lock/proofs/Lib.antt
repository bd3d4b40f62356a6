mod TakeMoves
mod GiveMoves
mod SplitMoves
mod NewPasses
mod Endings
mod SeenLaws
pub mod HistoryLaws
