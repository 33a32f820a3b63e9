mod Crossing
pub mod BrokenLemmas
mod BuildLemmas
pub mod CrashLemmas
mod DamagedRows
pub mod DiskForms
mod DiskRows
mod FirstStore
pub mod FlushBack
pub mod FlushLemmas
mod FlushRows
pub mod FoundWithin
pub mod FrontLemmas
pub mod GatherLemmas
mod HiddenBytes
pub mod KeptLemmas
pub mod KeptPages
pub mod KeptStore
pub mod NothingDue
mod PageRows
pub mod PagesLemmas
pub mod PartLemmas
mod ReadBlock
pub mod ReadBytes
mod ReadLog
mod ReadSlots
pub mod ReadStore
pub mod RebuildLemmas
mod RecoverLemmas
pub mod ScanLemmas
mod SoFarLemmas
pub mod StepLemmas
pub mod StoreLemmas
pub mod TableLemmas
mod StateLemmas
pub mod TextLemmas
