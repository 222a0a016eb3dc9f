pub mod Stretches
pub mod Cuts
