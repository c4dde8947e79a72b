pub mod Rows
pub mod Unique
pub mod Decide
pub mod Allows
