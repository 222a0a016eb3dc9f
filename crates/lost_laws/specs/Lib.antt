pub mod Agreeing
pub mod Sturdy
pub mod Tenths
pub mod Channels
pub mod Walks
pub mod Less
