pub mod AboveLemmas
mod CostLemmas
pub mod DigitLemmas
pub mod FloorLemmas
pub mod NearestLemmas
pub mod PlaceLemmas
mod WalkLemmas
