pub mod Texts
pub mod Lines
pub mod Arrays
pub mod Whole
pub mod OutputMembers
