-- The first pair whose key is above a key.
use Rattle.std.specs.Prelude.{Option}
use Rattle.std.specs.List.{find}
use Rattle.std.specs.Ordering.{is_lt}
use Rattle.keys.specs.Bytes.{Bytes, Pairs}
use Rattle.keys.specs.Order.{order}

-- the first of the pairs whose key is above k; if the keys rise, the pair with the least such key
abbrev pub above : {V : Type 0} → Bytes → Pairs V → Option (Bytes × V)
above k es = find (λ e. is_lt (order k e.0)) es
