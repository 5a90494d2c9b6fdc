pub mod Logs
pub mod Full
pub mod Made
pub mod Rules
pub mod View
pub mod Same
pub mod Govern
