pub mod Ops
pub mod Buffers
pub mod Invariant
pub mod Requests
pub mod Admission
pub mod Steps
pub mod Keeps
pub mod Order
