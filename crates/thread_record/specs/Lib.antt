pub mod Limits
pub mod Phases
pub mod Records
