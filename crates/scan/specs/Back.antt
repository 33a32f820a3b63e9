-- Rows from the greatest key down.
use Rattle.std.specs.Prelude.{ℕ, take, reverse, Option}
use Rattle.keys.specs.Bytes.{Bytes, Pairs}
use Rattle.keys.specs.Range.{in_range}

-- the rows of a range from the greatest key down, at most as many as the limit
abbrev pub rows_back : {V : Type 0} → Bytes → Option Bytes → ℕ → Pairs V → Pairs V
rows_back lo hi limit m = take limit (reverse (in_range lo hi m))
