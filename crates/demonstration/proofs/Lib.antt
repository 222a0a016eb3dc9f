pub mod RowFacts
pub mod OrderFacts
pub mod HourFacts
pub mod TextFacts
pub mod SizeFacts
mod Examples
