pub mod Letters
pub mod Tree
pub mod Due
pub mod Shape
