-- Places in a batch.
use Rattle.std.specs.Prelude.{ℕ, List}
use Rattle.std.specs.List.{range_with_len}

-- the places of a batch of this many commands: 0, 1, and so on
abbrev pub places_below : ℕ → List ℕ
places_below n = range_with_len 0 n
