pub mod Hours
pub mod Ranges
pub mod Told
pub mod Stores
pub mod Refusals
pub mod Knowledge
