-- Which keys a command changes, in the form that the proofs use.
use Rattle.std.specs.Prelude.{ℕ, Bool, false, not, ◌&&◌, ◌||◌, is_some, List, [], ◌∷◌}
use Rattle.std.specs.Ordering.{is_eq}
use Rattle.keys.specs.Order.{order}
use Rattle.keys.specs.OrderedMap.{value_at}
use Rattle.keys.specs.Range.{is_within}
use Rattle.keys.specs.Step.{map_after}
use Rattle.keys.specs.declared.command.Command.{Command}
use Rattle.keys.specs.declared.command.Command.TheVariants.{Get, Put, Add, Del, Scan, Wipe}

-- whether the command touches the key, on the map before it: a Put always does, an Add where the map lacks the key, a
-- Del where the map has it, a Wipe where the map has it and it lies in the range
abbrev pub touches : {A : Type 0} → List ℕ → List (List ℕ × List ℕ) → Command A → Bool
touches q m (Get k) = false
touches q m (Put k v) = is_eq (order q k)
touches q m (Add k v) = not (is_some (value_at k m)) && is_eq (order q k)
touches q m (Del k) = is_some (value_at k m) && is_eq (order q k)
touches q m (Scan lo hi limit) = false
touches q m (Wipe lo hi) = is_within lo hi q && is_some (value_at q m)

-- whether one of the commands does
abbrev pub is_touched : {A : Type 0} → List ℕ → List (List ℕ × List ℕ) → List (Command A) → Bool
is_touched q m [] = false
is_touched q m (c ∷ cs) = touches q m c || is_touched q (map_after m c) cs
