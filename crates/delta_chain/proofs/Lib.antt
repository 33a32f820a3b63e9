pub mod Crossing
mod Alone
pub mod Counts
pub mod Exchanging
mod Halves
pub mod LazyLemmas
pub mod LayerLemmas
pub mod Lending
mod LocatorLemmas
mod Lower
pub mod Merges
pub mod Overlays
mod Packing
pub mod Places
mod Putting
pub mod Rising
mod RunList
pub mod Setting
