pub mod Layers
pub mod Sources
pub mod Finding
pub mod Asking
