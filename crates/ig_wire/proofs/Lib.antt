pub mod AgreeLemmas
pub mod LeafLemmas
pub mod HeadLemmas
pub mod HelloReplyLemmas
pub mod GreetLemmas
pub mod WriteLemmas
