mod Counting
mod DirectionLemmas
mod EdgeLemmas
mod EmptyKey
mod EndLemmas
pub mod Enough
mod LastLemmas
mod LazyLemmas
mod LeafLemmas
mod MergeLemmas
pub mod Parts
mod PassingLemmas
mod PastLemmas
mod PathLemmas
mod PlaceLemmas
mod PrefixLemmas
mod RangeLemmas
mod RangeSteps
mod RowLemmas
mod SearchLemmas
mod TakenLemmas
mod TreeBeyond
mod TreeLemmas
mod TreeWalks
mod WalkLemmas
mod WalkPairs
