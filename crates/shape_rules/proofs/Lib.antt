pub mod Ranges
pub mod Splits
pub mod Texts
pub mod Readers
