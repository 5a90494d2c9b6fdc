pub mod Shapes
pub mod TypeText
pub mod Pieces
pub mod Places
pub mod Declarations
