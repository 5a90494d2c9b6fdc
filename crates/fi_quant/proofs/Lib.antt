pub mod Signs
pub mod Rows
pub mod Methods
pub mod Splits
pub mod Fits
pub mod Once
pub mod Exist
pub mod Exact
