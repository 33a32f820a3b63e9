pub mod Crossing
pub mod ChildLemmas
mod CountLemmas
pub mod WithinLemmas
pub mod ListLemmas
pub mod MeetingLemmas
pub mod PageLemmas
pub mod RangeLemmas
pub mod RuleLemmas
mod MemoryLemmas
