pub mod Mirroring
mod Permuting
