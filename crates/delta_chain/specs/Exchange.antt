-- Replacing a cell that a page holds.
use Rattle.std.specs.Prelude.{ℕ, zero, suc, [], ◌∷◌, List, Option, Some, None, is_some, if◌then◌else◌}
use Rattle.keys.specs.Bytes.{Bytes, Pairs, Changes}
use Rattle.keys.specs.OrderedMap.{value_at, with_pair}
use Rattle.delta_chain.specs.Layers.{Layers}

-- entries with another item at a place
abbrev pub exchanged_at : {T : Type 0} → Pairs T → ℕ → T → Pairs T
exchanged_at [] at t = []
exchanged_at (e ∷ es) zero t = (e.0, t) ∷ es
exchanged_at (e ∷ es) (suc at) t = e ∷ exchanged_at es at t

-- the second cell if there is a first one, else none
abbrev pub in_place_of : {V : Type 0} → Option V → V → Option V
in_place_of None v = None
in_place_of (Some w) v = Some v

-- a run in front of others and a base, by the run's change of the key: the cell is replaced in the run, or the run deletes the key, or the cell is
-- replaced below
abbrev pub exchanged_by : {V : Type 0} → Option (Option V) → Bytes → V → Changes V → Layers V → Layers V → Layers V
exchanged_by None k v run p below = record { runs = run ∷ below.runs; base = below.base }
exchanged_by (Some None) k v run p below = record { runs = run ∷ p.runs; base = p.base }
exchanged_by (Some (Some w)) k v run p below = record { runs = with_pair run k (Some v) ∷ p.runs; base = p.base }

-- runs and a base with the cell that they hold at the key replaced, or unchanged if they hold none
abbrev pub exchanged_under : {V : Type 0} → Bytes → V → List (Changes V) → Pairs V → Layers V
exchanged_under k v [] base = record { runs = []; base = if is_some (value_at k base) then with_pair base k v else base }
exchanged_under k v (run ∷ runs) base =
    exchanged_by (value_at k run) k v run (record { runs = runs; base = base }) (exchanged_under k v runs base)

-- a page with the cell that it holds at the key replaced
abbrev pub exchanged : {V : Type 0} → Layers V → Bytes → V → Layers V
exchanged p k v = exchanged_under k v p.runs p.base
