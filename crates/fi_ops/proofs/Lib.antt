pub mod Sizes
pub mod Orders
pub mod Taken
pub mod Ranges
pub mod Full
pub mod Parts
pub mod Stored
