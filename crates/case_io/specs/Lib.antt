pub mod Cases
pub mod Plain
pub mod View
pub mod Reads
pub mod ResultLines
