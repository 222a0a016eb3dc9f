pub mod Running
pub mod Tracing
pub mod Crossing
pub mod Carrying
