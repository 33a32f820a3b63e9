-- A chain in memory some of whose oldest runs count as merged into its base, and the page that it represents.
use Rattle.std.specs.Prelude.{ℕ, ◌-◌, length, take, drop}
use Rattle.delta_chain.specs.Layers.{Layers, entries_of}

-- the chain in memory, and how many of its oldest runs count as merged
pub record Lazy (V : Type 0) : Type 0 where
  pub chain : Layers V
  pub merged_runs : ℕ

-- how many runs do not count as merged
abbrev pub open_runs : {V : Type 0} → Lazy V → ℕ
open_runs c = length c.chain.runs - c.merged_runs

-- the base in memory under the runs that count as merged
abbrev pub below_of : {V : Type 0} → Lazy V → Layers V
below_of c = record { runs = drop (open_runs c) c.chain.runs; base = c.chain.base }

-- the page: the other runs, over a base of the entries of `below_of`
abbrev pub seen : {V : Type 0} → Lazy V → Layers V
seen c = record { runs = take (open_runs c) c.chain.runs; base = entries_of (below_of c) }
