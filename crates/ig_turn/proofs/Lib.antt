pub mod ListLemmas
pub mod BoardLemmas
pub mod CallLemmas
pub mod SeatLemmas
pub mod OpeningLemmas
pub mod WholeLemmas
pub mod CellsLemmas
pub mod TwoCallsLemmas
