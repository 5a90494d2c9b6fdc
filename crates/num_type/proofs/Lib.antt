pub mod Constants
pub mod Decimals
pub mod Held
pub mod Orders
pub mod Raised
pub mod Sums
