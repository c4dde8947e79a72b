pub mod Places
pub mod Subtrees
pub mod Tables
pub mod Walks
pub mod Whole
pub mod Making
