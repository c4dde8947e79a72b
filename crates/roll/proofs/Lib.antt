pub mod Walks
pub mod Faults
pub mod Rolls
