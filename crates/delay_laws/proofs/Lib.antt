pub mod Standing
pub mod Lapses
pub mod Delays
pub mod Events
