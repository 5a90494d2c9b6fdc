pub mod Lang
pub mod Spelling
pub mod Grammar
pub mod Words
pub mod Machine
pub mod Least
pub mod Refused
