pub mod NumberLemmas
pub mod FrameLemmas
pub mod HashLemmas
pub mod HeaderLemmas
