pub mod Trims
pub mod Records
pub mod Files
