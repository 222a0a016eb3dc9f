pub mod Standing
pub mod Delays
pub mod Events
