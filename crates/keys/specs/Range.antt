-- Ranges of keys, and the rows of a range: at or above a lower bound, below an optional upper bound, and at most as many as a limit.
use Rattle.std.specs.Prelude.{ℕ, Bool, true, not, ◌&&◌, take, Option, Some, None}
use Rattle.std.specs.Ordering.{is_lt}
use Rattle.std.specs.List.{filter}
use Rattle.keys.specs.Bytes.{Bytes, Pairs}
use Rattle.keys.specs.Order.{order}

-- whether a key is below another
abbrev pub is_below : Bytes → Bytes → Bool
is_below k end = is_lt (order k end)

-- whether a key is below the end; without an end, every key is
abbrev pub is_before : Option Bytes → Bytes → Bool
is_before None k = true
is_before (Some end) k = is_below k end

-- whether a key lies in a range
abbrev pub is_within : Bytes → Option Bytes → Bytes → Bool
is_within lo hi k = not (is_below k lo) && is_before hi k

-- the pairs of a map whose keys lie in a range
abbrev pub in_range : {V : Type 0} → Bytes → Option Bytes → Pairs V → Pairs V
in_range lo hi m = filter (λ e. is_within lo hi e.0) m

-- the pairs whose keys do not lie in the range
abbrev pub out_of_range : {V : Type 0} → Bytes → Option Bytes → Pairs V → Pairs V
out_of_range lo hi m = filter (λ e. not (is_within lo hi e.0)) m

-- the first `limit` pairs of a range
abbrev pub rows : {V : Type 0} → Bytes → Option Bytes → ℕ → Pairs V → Pairs V
rows lo hi limit m = take limit (in_range lo hi m)
