-- The run of a parent for the changes of its children.
use Rattle.std.specs.Prelude.{ℕ, List, [], ◌∷◌, map, flat_map, Option, Some, None}
use Rattle.std.specs.declared.cmp.Ordering.{Ordering}
use Rattle.std.specs.declared.cmp.Ordering.TheVariants.{Less, Greater}
use Rattle.keys.specs.Bytes.{Changes, Separators}
use Rattle.keys.specs.Order.{order}
use Rattle.delta_chain.specs.Layers.{with_run}
use Rattle.mapping.specs.Levels.{Placed, names}
use Rattle.split_plan.specs.Change.{Change, freed_by, fresh_of}

-- a run that deletes the low keys of these entries
abbrev pub absent : Separators → Changes ℕ
absent ns = map (λ n. (n.0, None)) ns

-- changes to a run that set the low keys of these entries to their pids; a run is a list of pairs, too
abbrev pub present : Separators → Changes (Option ℕ)
present ns = map (λ n. (n.0, Some (Some n.1))) ns

abbrev pub freed_of : {V : Type 0} → List (Change V) → List (Placed V)
freed_of cs = flat_map freed_by cs

-- the parent's run: it deletes the low keys of freed members, and sets those of new pages to their pids
abbrev pub terms : {V : Type 0} → List (Change V) → Changes ℕ
terms cs = with_run (absent (names (freed_of cs))) (present (names (fresh_of cs)))

-- the term of a key with these pids in the lists of new pages and of freed members
abbrev pub term_at : Option ℕ → Option ℕ → Option (Option ℕ)
term_at (Some pid) freed = Some (Some pid)
term_at None (Some pid) = Some None
term_at None None = None

-- compares the first keys of two lists; an empty list counts as greater than every key
abbrev pub front_order : Separators → Separators → Ordering
front_order [] ms = Greater
front_order (n ∷ ns) [] = Less
front_order (n ∷ ns) (m ∷ ms) = order n.0 m.0
