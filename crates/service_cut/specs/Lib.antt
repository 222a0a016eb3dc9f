pub mod Signs
pub mod Services
pub mod Cycles
pub mod Parts
pub mod Cut
pub mod Whole
pub mod Steps
pub mod Passing
