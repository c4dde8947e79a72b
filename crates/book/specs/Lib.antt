pub mod Limits
pub mod Refusals
pub mod Ties
pub mod Meaning
pub mod Calls
