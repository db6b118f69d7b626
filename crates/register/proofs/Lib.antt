pub mod OnesLaws
pub mod PackedLaws
