pub mod Shifted
pub mod Steps
pub mod Best
