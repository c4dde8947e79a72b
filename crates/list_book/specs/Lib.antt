pub mod Listed
pub mod ListBooks
pub mod Neighbours
