pub mod Log
pub mod States
pub mod Points
pub mod Rows
pub mod Over
pub mod Opened
pub mod Views
pub mod Laws
