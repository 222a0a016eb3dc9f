pub mod Sums
pub mod Totals
pub mod Green
pub mod States
pub mod Plain
