pub mod View
pub mod Results
pub mod Tasks
pub mod Orders
pub mod Numbers
pub mod Totals
pub mod Classes
pub mod Matrices
