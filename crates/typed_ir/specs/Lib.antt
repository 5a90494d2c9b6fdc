pub mod Tree
pub mod Parts
pub mod Meaning
pub mod View
