pub mod InTurnLemmas
mod LentRows
pub mod Placing
pub mod Points
