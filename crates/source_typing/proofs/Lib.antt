pub mod Passing
pub mod Counted
pub mod Within
pub mod Blocks
pub mod Sources
pub mod Rows
