pub mod Rows
pub mod Hours
pub mod Passes
pub mod Numbers
pub mod Sums
