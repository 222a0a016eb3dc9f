pub mod Stretches
pub mod Rising
pub mod Counts
