pub mod Numbered
pub mod Fixed
pub mod Table
