pub mod Pasts
pub mod Moves
pub mod Laws
