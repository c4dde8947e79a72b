pub mod Times
pub mod Opening
pub mod Moves
pub mod Seeking
