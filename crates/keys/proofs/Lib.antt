pub mod Basics
pub mod CellLemmas
pub mod LimitLemmas
pub mod Literals
pub mod MapLemmas
pub mod NarrowedLemmas
pub mod PlacedPieces
pub mod RangeLemmas
mod Rows
mod RowLemmas
pub mod RunLemmas
mod SettingsRows
pub mod Weaving
pub mod WordLemmas
