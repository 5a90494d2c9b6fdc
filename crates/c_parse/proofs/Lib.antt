pub mod Headers
pub mod Owed
pub mod Read
