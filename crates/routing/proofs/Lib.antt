pub mod PlaceLemmas
mod BatchLemmas
mod BatchOrder
pub mod DescentLemmas
mod DownLemmas
mod IdleLemmas
mod LevelShares
pub mod RisingPlaces
pub mod RouteLemmas
mod Rows
pub mod RunLemmas
mod RunsOfShares
pub mod ShareLemmas
pub mod SliceLemmas
pub mod SortLemmas
mod WalkLemmas
