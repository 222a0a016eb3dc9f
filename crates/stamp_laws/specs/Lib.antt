pub mod Numbers
pub mod Dates
pub mod Times
pub mod Stamps
