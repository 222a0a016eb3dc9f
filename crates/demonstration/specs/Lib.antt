pub mod Draws
pub mod Rows
pub mod Order
pub mod Texts
pub mod Files
