pub mod Change
pub mod Cut
pub mod Frames
pub mod Groups
pub mod Moving
pub mod Pieces
pub mod Terms
pub mod UpdatedLevel
