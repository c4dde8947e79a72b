pub mod Limits
pub mod Operands
pub mod Finding
pub mod Telling
pub mod OneWord
pub mod OneAnswer
pub mod Counted
pub mod Promises
