pub mod Containers
mod Count
mod Deepest
mod Within
mod Lexing
mod Declared
pub mod Typed
mod Laid
mod LaidProgram
mod Loops
pub mod Example
