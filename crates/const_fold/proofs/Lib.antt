pub mod Chosen
pub mod Entries
pub mod Multiplied
pub mod Outcomes
pub mod Raised
pub mod Reals
pub mod Sums
