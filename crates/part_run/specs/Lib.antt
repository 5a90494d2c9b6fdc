pub mod PartProgram
pub mod Output
