-- Which key may follow the others in a list of entries.
use Rattle.std.specs.Prelude.{Bool, true, [], ◌∷◌}
use Rattle.std.specs.Ordering.{is_lt}
use Rattle.keys.specs.Bytes.{Bytes, Pairs}
use Rattle.keys.specs.Order.{order}

-- whether the key is above the last one, if there is one
abbrev pub goes_last : {V : Type 0} → Bytes → Pairs V → Bool
goes_last k [] = true
goes_last k (e ∷ []) = is_lt (order e.0 k)
goes_last k (e ∷ f ∷ es) = goes_last k (f ∷ es)
