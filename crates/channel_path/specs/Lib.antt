pub mod Walks
pub mod Places
pub mod Legs
pub mod Kept
pub mod Certain
pub mod Runs
pub mod Near
