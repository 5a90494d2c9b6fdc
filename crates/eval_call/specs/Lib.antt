pub mod View
pub mod Represented
pub mod Functions
pub mod Casts
