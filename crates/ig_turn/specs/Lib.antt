pub use Rattle.atomic_table.specs.Seated
pub mod GainsPair
pub mod SeatState
pub mod History
pub mod Ordered
pub mod Steps
pub mod Cells
