pub mod Rules
pub mod Channels
pub mod Obligations
pub mod Judged
pub mod Lines
pub mod Index
pub mod Pass
