pub mod Blocks
pub mod Casts
pub mod Frames
pub mod Goes
