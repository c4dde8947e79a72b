pub mod TieBits
pub mod Making
pub mod Boards
pub mod Lowest
