pub mod Factors
pub mod Accumulations
pub mod Ranges
