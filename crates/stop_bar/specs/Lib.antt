pub mod Crossing
pub mod Bars
pub mod Lists
pub mod All
pub mod Windows
pub mod Going
pub mod Staying
