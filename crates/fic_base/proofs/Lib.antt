pub mod NameTests
pub mod Tables
