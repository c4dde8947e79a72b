pub mod MarkBits
pub mod MarkBoards
