pub mod Inputs
mod Cases
mod Powers
