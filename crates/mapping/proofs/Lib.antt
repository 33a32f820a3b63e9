pub mod Crossing
mod Around
mod Counted
mod DescentLemmas
pub mod DescentWay
pub mod DrawnPlaces
mod DueSlots
pub mod DueTable
mod FindingRow
pub mod FirstTree
mod FlushedSlots
mod FreshLemmas
pub mod HomePages
pub mod InUse
pub mod Joined
pub mod KnownPids
mod Level
pub mod LevelLemmas
mod Listing
pub mod Literals
mod MetPids
mod Parts
pub mod PidLemmas
mod RoomLemmas
pub mod SameTable
pub mod SameTree
mod Search
pub mod TableLemmas
pub mod TableOfLevels
mod TableRows
mod TableSlots
pub mod TileLemmas
pub mod Walk
