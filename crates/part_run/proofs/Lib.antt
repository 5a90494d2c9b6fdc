pub mod Formed
pub mod Ready
pub mod Types
