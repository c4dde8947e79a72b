pub mod Decimal
pub mod Requests
pub mod Tallies
pub mod Operands
