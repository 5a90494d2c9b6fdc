pub mod Outcome
pub mod Operators
pub mod Calls
pub mod Meaning
