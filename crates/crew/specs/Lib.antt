pub mod Turn
pub mod Crew
pub mod Round
pub mod Pieces
pub mod Home
pub mod Drawn
pub mod Marks
pub mod SoundRound
