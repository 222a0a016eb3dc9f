pub mod Phases
pub mod Verdicts
pub mod Failures
pub mod Hours
