pub mod ArgumentLemmas
pub mod NameLemmas
pub mod LinePlaceLemmas
pub mod LineLemmas
pub mod AskLemmas
pub mod EndLoopLemmas
pub mod ReadLineLemmas
pub mod WriteLineLemmas
