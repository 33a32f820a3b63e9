-- The cost of a search, by its result.
use Rattle.std.proofs.Common.{◌≡◌, ◌+◌, ◌≤◌, ℕ, Bool, true, false, List, ◌∷◌, length, Option, None, is_some, min, refl, arith}
use Rattle.std.specs.Map.{keys_of}
use Rattle.std.proofs.lemmas.Map.Entries.{length-keys_of}
use Rattle.keys.specs.OrderedMap.{value_at}
use Rattle.page_search.specs.Costs.{fewest_among, cost_under}

module _ {V : Type 0} where
  -- what a search among keys costs at least is said of the entries that have them
  pub least_by : (is_there : Bool) (k : List ℕ) (es : List (List ℕ × V)) (before after stop : ℕ) → is_some (value_at k es) ≡ is_there → min (before + fewest_among is_there (length (keys_of es))) stop ≤ after → min (before + fewest_among (is_some (value_at k es)) (length es)) stop ≤ after
  least_by is_there k es before after stop h p = rw h (rw length-keys_of at p)

  -- the search ends at a run that contains the key
  pub least_here : (cost : Bool → ℕ → ℕ) (k : List ℕ) (run : List (List ℕ × Option V)) (runs : List (List (List ℕ × Option V))) (base : List (List ℕ × V)) (before after stop : ℕ) → is_some (value_at k run) ≡ true → min (before + cost true (length (keys_of run))) stop ≤ after → min (before + cost_under cost k (run ∷ runs) base) stop ≤ after
  least_here cost k run runs base before after stop h p =
      let here : cost_under cost k (run ∷ runs) base ≡ cost true (length (keys_of run)) + 0 = rw (h, length-keys_of) refl in
      omega arith

  pub most_here : (cost : Bool → ℕ → ℕ) (k : List ℕ) (run : List (List ℕ × Option V)) (runs : List (List (List ℕ × Option V))) (base : List (List ℕ × V)) (before after limit : ℕ) → is_some (value_at k run) ≡ true → after ≤ before + cost true (length (keys_of run)) → before + cost_under cost k (run ∷ runs) base ≤ limit → after ≤ limit
  most_here cost k run runs base before after limit h p q =
      let here : cost_under cost k (run ∷ runs) base ≡ cost true (length (keys_of run)) + 0 = rw (h, length-keys_of) refl in
      omega arith

  -- ---- if a run does not contain the key, and the search continues below

  -- the cost of the run, and of what is below it
  cost_past : (cost : Bool → ℕ → ℕ) (k : List ℕ) (run : List (List ℕ × Option V)) (runs : List (List (List ℕ × Option V))) (base : List (List ℕ × V)) → value_at k run ≡ None → cost_under cost k (run ∷ runs) base ≡ cost false (length (keys_of run)) + cost_under cost k runs base
  cost_past cost k run runs base h = rw (h, length-keys_of) refl

  -- the remaining comparisons are within the bound
  pub most_left : (cost : Bool → ℕ → ℕ) (k : List ℕ) (run : List (List ℕ × Option V)) (runs : List (List (List ℕ × Option V))) (base : List (List ℕ × V)) (before between limit : ℕ) → value_at k run ≡ None → between ≤ before + cost false (length (keys_of run)) → before + cost_under cost k (run ∷ runs) base ≤ limit → between + cost_under cost k runs base ≤ limit
  most_left cost k run runs base before between limit h p q = omega (arith, cost_past cost k run runs base h)

  -- and comes to no less, up to where the count stops
  pub least_left : (cost : Bool → ℕ → ℕ) (k : List ℕ) (run : List (List ℕ × Option V)) (runs : List (List (List ℕ × Option V))) (base : List (List ℕ × V)) (before between start stop : ℕ) → value_at k run ≡ None → min (before + cost false (length (keys_of run))) stop ≤ between → start ≤ min (before + cost_under cost k (run ∷ runs) base) stop → start ≤ min (between + cost_under cost k runs base) stop
  least_left cost k run runs base before between start stop h p q = omega (arith, cost_past cost k run runs base h)
