pub mod Number
pub mod Grammar
pub mod Reading
pub mod Repeats
pub mod Faults
pub mod Laws
