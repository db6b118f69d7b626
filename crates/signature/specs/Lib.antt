pub mod Meaning
pub mod Members
