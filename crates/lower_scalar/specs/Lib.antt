pub mod Part
pub mod Shapes
pub mod Operators
