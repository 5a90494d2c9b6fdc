pub mod Equal
pub mod Limits
pub mod Logs
pub mod Sums
pub mod Inside
