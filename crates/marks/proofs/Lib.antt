pub mod MarkMoves
