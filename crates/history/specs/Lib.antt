pub mod Law
pub mod Runs
pub mod Serial
