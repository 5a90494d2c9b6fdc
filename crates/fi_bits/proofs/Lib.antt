pub mod Patterns
pub mod Moves
pub mod Signs
pub mod Sides
