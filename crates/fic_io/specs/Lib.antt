pub mod Causes
pub mod Lookup
pub mod Known
