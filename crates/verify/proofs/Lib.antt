mod Crossing
mod ChainLemmas
mod LevelLemmas
mod MetLemmas
mod PageLemmas
mod WalkLemmas
