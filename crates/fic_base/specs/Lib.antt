pub mod Names
pub mod Decimal
