pub mod BytesLemmas
pub mod CutLemmas
pub mod PairLemmas
pub mod AskedLemmas
pub mod KeepLemmas
pub mod LinkLemmas
pub mod StandLemmas
pub mod SubmitLemmas
pub mod PumpLemmas
pub mod StartLemmas
pub mod PendingLemmas
pub mod GreetLemmas
pub mod ActLemmas
pub mod ReplyLemmas
mod WorkedRuns
