pub mod Tell
pub mod Lefts
pub mod Entries
pub mod Tables
pub mod Checks
pub mod Opened
