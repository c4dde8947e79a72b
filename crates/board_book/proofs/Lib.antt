mod TieMoves
mod BoardMoves
mod RowLaws
