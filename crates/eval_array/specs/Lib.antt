pub mod Choices
pub mod Fitting
pub mod Joints
pub mod Ranged
pub mod Rearrangements
pub mod Views
