pub mod Stills
pub mod Walks
pub mod Marked
pub mod Lines
pub mod Credits
pub mod Decisions
pub mod Cuts
pub mod Hours
