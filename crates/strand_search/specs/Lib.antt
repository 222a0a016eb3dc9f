pub mod Events
pub mod Pieces
pub mod Parts
pub mod Points
pub mod Runs
pub mod Crossings
pub mod Fillings
