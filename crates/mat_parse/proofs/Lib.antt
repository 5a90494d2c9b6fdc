pub mod Capped
pub mod Parses
