pub mod Scan
pub mod Line
