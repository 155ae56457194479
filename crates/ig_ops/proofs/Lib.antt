pub mod RequestLemmas
pub mod ResultLemmas
pub mod PageLemmas
pub mod AskedLemmas
