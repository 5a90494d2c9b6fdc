pub mod View
pub mod Items
pub mod Halts
pub mod Flows
pub mod Outcomes
