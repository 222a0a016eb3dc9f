pub mod Sets
pub mod Adding
pub mod Cutting
pub mod Clamping
