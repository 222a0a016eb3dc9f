pub mod Distinct
pub mod Machines
pub mod Places
pub mod Rows
