pub mod Real
pub mod Steps
