pub mod Families
pub mod Parsed
pub mod Steps
