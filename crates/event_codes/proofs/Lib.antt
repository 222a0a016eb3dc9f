pub mod Numbered
pub mod Common
pub mod Groups
