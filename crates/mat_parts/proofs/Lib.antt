pub mod Views
pub mod Stacks
