pub mod Crossing
pub mod AfterLemmas
pub mod ApartLemmas
mod Counts
pub mod EndedBatch
pub mod IdleBatch
mod KeyOrder
mod LeafAfter
mod LeafMade
mod NamedRows
pub mod NetLemmas
mod Overlays
pub mod PageParts
mod PageRows
mod PointsByKey
pub mod ReadLemmas
mod Replays
mod Rows
pub mod Touching
