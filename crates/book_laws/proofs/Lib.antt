pub mod Counting
pub mod Moves
