pub mod ByPlace
pub mod InTurn
