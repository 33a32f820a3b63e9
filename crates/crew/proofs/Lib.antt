pub mod RoundLemmas
mod HomeLemmas
mod InTurnLemmas
mod PieceLemmas
mod DrawnLemmas
pub mod Forgotten
pub mod OnePlace
pub mod SoundLemmas
pub mod Steps
pub mod MarkTable
pub mod AllOnBoard
pub mod MarksMet
