pub mod NameMaps
pub mod Lowered
pub mod Correspondence
pub mod Right
