pub mod Stills
pub mod Credits
pub mod Deciding
pub mod Cutting
pub mod Starting
pub mod Explaining
pub mod Alike
