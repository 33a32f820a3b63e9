mod CarryLemmas
mod ChooseLemmas
pub mod CleanBack
pub mod CleanCrash
mod CleanLemmas
mod CleanRows
mod DoneLemmas
mod LaterCleans
mod LiveLemmas
mod NextReading
mod NumberLists
mod PlanLemmas
mod ReadingLemmas
