pub mod Crossing
pub mod ChangeLemmas
pub mod CutLemmas
mod Exchange
pub mod ExchangeLemmas
pub mod GroupLemmas
pub mod GroupSizes
mod LentPieces
mod MovingLemmas
mod NewPagesLemmas
pub mod OutdatedLemmas
pub mod PidLemmas
pub mod Renewed
pub mod RunLemmas
mod Stages
pub mod TermLemmas
mod TermMerge
pub mod WorkedLemmas
pub mod Full
