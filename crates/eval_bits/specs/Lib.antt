pub mod Changes
pub mod Joints
pub mod Powers
