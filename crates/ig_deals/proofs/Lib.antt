pub mod DealLemmas
pub mod ReplyLemmas
pub mod ApartLemmas
pub mod CursorLemmas
pub mod PageLemmas
pub mod DeskLemmas
pub mod CutLemmas
pub mod TakeLemmas
pub mod PieceLemmas
pub mod RowLemmas
mod WorkedSessions
