pub mod Told
pub mod Names
pub mod NameSets
pub mod Shown
pub mod Scope
pub mod Headers
pub mod View
pub mod Rules
