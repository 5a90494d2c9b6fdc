pub mod View
pub mod Tells
