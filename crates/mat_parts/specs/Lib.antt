pub mod View
pub mod Pending
