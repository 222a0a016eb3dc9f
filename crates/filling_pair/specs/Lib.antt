pub mod Strands
pub mod Kept
pub mod Walking
pub mod Laws
pub mod Lines
pub mod Asks
