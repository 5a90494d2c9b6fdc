pub mod TypeWords
pub mod FormTests
pub mod RunWords
pub mod Puts
pub mod Tells
pub mod Cut
pub mod Sources
pub mod Exact
