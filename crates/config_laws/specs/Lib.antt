pub mod Keys
pub mod Walk
pub mod Entries
pub mod Document
pub mod Refusals
