pub mod Doubled
pub mod Joined
pub mod Texts
