pub mod Fronts
mod Places
mod Behind
mod Once
