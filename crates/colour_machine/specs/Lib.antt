pub mod Mask
pub mod Rules
pub mod Changes
