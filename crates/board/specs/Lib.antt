pub mod Admissions
pub mod Changes
pub mod Refusals
pub mod Requests
pub mod Rules
pub mod States
pub mod Views
