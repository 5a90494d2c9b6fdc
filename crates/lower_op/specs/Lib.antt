pub mod Arguments
pub mod CompareShapes
pub mod Comparisons
pub mod Ends
pub mod Lowering
pub mod Operations
