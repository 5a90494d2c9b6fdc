pub mod Words
pub mod Frames
pub mod Turns
pub mod Limits
pub mod Lists
pub mod Endings
pub mod Fills
