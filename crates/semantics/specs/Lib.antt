pub mod Satisfaction
pub mod Verdicts
