pub mod Elements
pub mod Operations
pub mod Complex
pub mod Bits
pub mod View
pub mod Parts
