-- The merge of a run with the pairs below it, and of the runs of a page with each other.
use Rattle.std.specs.Prelude.{List, [], ◌∷◌, map, Option, Some, None}
use Rattle.std.specs.declared.cmp.Ordering.{Ordering}
use Rattle.std.specs.declared.cmp.Ordering.TheVariants.{Greater}
use Rattle.keys.specs.Bytes.{Bytes, Pairs, Changes}
use Rattle.keys.specs.Order.{order}
use Rattle.delta_chain.specs.Layers.{with_run}

-- the key with its value, if it has one
abbrev pub pair_if : {V : Type 0} → Bytes → Option V → Pairs V
pair_if k None = []
pair_if k (Some v) = (k, v) ∷ []

-- how the first key compares to k; without a first key, Greater
abbrev pub first_order : {V : Type 0} → Pairs V → Bytes → Ordering
first_order [] k = Greater
first_order (e ∷ es) k = order e.0 k

-- a run's changes as present entries, each a value or a deletion
abbrev pub asserted : {V : Type 0} → Changes V → Changes (Option V)
asserted {V} run = map {B = Bytes × Option (Option V)} (λ (c : Bytes × Option V). (c.0, Some c.1)) run

-- older changes overlaid with those of a newer run
abbrev pub overlaid : {V : Type 0} → Changes V → Changes V → Changes V
overlaid older newer = with_run older (asserted newer)

-- the merged changes of runs, which are given newest first
abbrev pub joined_changes : {V : Type 0} → List (Changes V) → Changes V
joined_changes [] = []
joined_changes (run ∷ runs) = overlaid (joined_changes runs) run
