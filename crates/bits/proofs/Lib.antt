pub mod BitLaws
pub mod Gathering
