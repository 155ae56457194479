pub mod OrderLemmas
pub mod LoopLemmas
pub mod TypeLemmas
pub mod RequestLemmas
pub mod ResultLemmas
