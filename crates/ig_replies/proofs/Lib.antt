pub mod FrameLemmas
pub mod PartLemmas
pub mod QueueLemmas
pub mod ReasonLemmas
pub mod ResultLemmas
pub mod ShowLemmas
pub mod TurnLemmas
