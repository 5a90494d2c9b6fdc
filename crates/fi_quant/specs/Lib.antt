pub mod Round
pub mod Fit
pub mod Numbers
pub mod Split
