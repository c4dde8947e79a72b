pub mod Cuts
pub mod Takes
pub mod Words
