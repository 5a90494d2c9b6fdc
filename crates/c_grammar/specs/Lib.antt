pub mod Equal
pub mod Live
pub mod Machine
pub mod Sentence
pub mod Spelled
pub mod Words
