mod Crossing
pub mod AdmitLemmas
pub mod BlockReading
mod ByteRowNine
mod ByteRowOne
mod ByteRowThree
pub mod CallLemmas
pub mod CalledLemmas
pub mod CommitLemmas
pub mod CommitRuns
pub mod CrashLemmas
mod DueLemmas
pub mod FaultLemmas
pub mod FitLemmas
pub mod GatherLemmas
pub mod GatherRuns
pub mod HeadLemmas
pub mod HideLemmas
pub mod ImageLemmas
pub mod LayoutLemmas
pub mod Literals
pub mod NewStoreLemmas
pub mod NextSlotLemmas
pub mod NumberLemmas
pub mod OlderLemmas
pub mod OutcomeLemmas
pub mod OverlayLemmas
pub mod PlaceLemmas
mod PlaceRows
pub mod PlannedLemmas
pub mod ProperPages
pub mod PutTogether
pub mod ReachLemmas
pub mod ReadBackLemmas
pub mod ReadNumbers
pub mod RecordLemmas
pub mod SameLemmas
pub mod SegmentLemmas
pub mod SettingsLemmas
pub mod SlotLemmas
pub mod SlotReading
mod SlotRows
pub mod SlotRuns
pub mod StandingLemmas
pub mod StandsLemmas
pub mod TailLemmas
pub mod TextImages
mod TextRows
pub mod UpgradeLemmas
mod UpgradeRows
pub mod ViewLemmas
pub mod WrittenLemmas
