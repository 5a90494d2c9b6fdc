pub mod Orders
pub mod Pairs
pub mod CompareSays
pub mod CompareParts
pub mod Whole
