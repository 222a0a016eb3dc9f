pub mod Years
mod Dates
pub mod Growing
pub mod Common
pub mod Each
