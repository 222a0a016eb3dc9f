pub mod Numbers
pub mod Texts
pub mod Dates
pub mod Times
pub mod Halves
pub mod Stamps
