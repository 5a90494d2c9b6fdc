pub mod First
pub mod Read
pub mod View
