-- Ranges of keys as Rust has them: each of the two bounds includes its key, excludes it, or is absent.
use Rattle.std.specs.Prelude.{Bool, true, not, ◌&&◌}
use Rattle.std.specs.Borrow.{Bor}
use Rattle.std.specs.List.{filter}
use Rattle.std.specs.declared.ops.Bound.{Bound}
use Rattle.std.specs.declared.ops.Bound.TheVariants.{Included, Excluded, Unbounded}
use Rattle.keys.specs.Bytes.{Bytes, Pairs}
use Rattle.keys.specs.Range.{is_below}

-- whether a key is at or above a lower bound, or above a bound that excludes its key
abbrev pub is_from : Bound (Bor Bytes) → Bytes → Bool
is_from (Included lo) k = not (is_below k lo.now)
is_from (Excluded lo) k = is_below lo.now k
is_from Unbounded k = true

-- whether a key is at or below an upper bound, or below a bound that excludes its key
abbrev pub is_up_to : Bound (Bor Bytes) → Bytes → Bool
is_up_to (Included hi) k = not (is_below hi.now k)
is_up_to (Excluded hi) k = is_below k hi.now
is_up_to Unbounded k = true

-- the pairs of a map whose keys lie between the bounds
abbrev pub pairs_within : {V : Type 0} → Bound (Bor Bytes) → Bound (Bor Bytes) → Pairs V → Pairs V
pairs_within lo hi m = filter (λ e. is_from lo e.0 && is_up_to hi e.0) m
