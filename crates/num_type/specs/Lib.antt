pub mod Constants
pub mod Containers
pub mod Decimals
pub mod Precision
pub mod Types
pub mod View
pub mod Whole
