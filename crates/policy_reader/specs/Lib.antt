pub mod Causes
pub mod Numbers
pub mod Token
pub mod Spell
pub mod Operands
pub mod Told
pub mod Found
pub mod Ends
