-- The last pair whose key isn't above a key.
use Rattle.std.specs.Prelude.{[], ◌∷◌, Option, Some, None, if◌then◌else◌}
use Rattle.std.specs.Option.{option_or}
use Rattle.std.specs.Ordering.{is_lt}
use Rattle.keys.specs.Bytes.{Bytes, Pairs}
use Rattle.keys.specs.Order.{order}

-- the last of the pairs whose key isn't above k; if the keys rise, the pair with the greatest such key
abbrev pub floor : {V : Type 0} → Bytes → Pairs V → Option (Bytes × V)
floor k [] = None
floor k (e ∷ es) = option_or (floor k es) (if is_lt (order k e.0) then None else Some e)
