-- The number of entries after a change and after a run. For the proofs of this crate and of those above it.
use Rattle.std.specs.Prelude.{◌≡◌, ℕ, suc, ◌+◌, ◌≤◌, min, Bool, true, false, cond, List, [], ◌∷◌, length, Option, Some, None}
use Rattle.std.proofs.Common.{arith, ◌-◌, Ordering, Less, Equal, Greater}
use Rattle.std.specs.Ordering.{is_eq, match_ordering}
use Rattle.keys.specs.Order.{order}
use Rattle.keys.specs.OrderedMap.{with_pair, without}
use Rattle.delta_chain.specs.Layers.{with_change, with_run}

module _ {V : Type 0} where
  without_by : (b : Bool) (e : List ℕ × V) (es rest : List (List ℕ × V)) → length es ≤ length rest + 1 → suc (length es) ≤ length (cond b es (e ∷ rest)) + 1
  without_by true e es rest h = omega arith
  without_by false e es rest h = omega arith

  -- a deleted key is at most one entry less
  pub most_without : (m : List (List ℕ × V)) (k : List ℕ) → length m ≤ length (without m k) + 1
  most_without [] k = omega arith
  most_without (e ∷ es) k = without_by (is_eq (order k e.0)) e es (without es k) (most_without es k)

  with_pair_by : (o : Ordering) (k : List ℕ) (v : V) (e : List ℕ × V) (es rest : List (List ℕ × V)) → length es ≤ length rest → suc (length es) ≤ length (match_ordering o ((k, v) ∷ e ∷ es) ((e.0, v) ∷ es) (e ∷ rest))
  with_pair_by Less k v e es rest h = omega arith
  with_pair_by Equal k v e es rest h = omega arith
  with_pair_by Greater k v e es rest h = omega arith

  -- a pair that is put deletes no entry
  pub most_with_pair : (m : List (List ℕ × V)) (k : List ℕ) (v : V) → length m ≤ length (with_pair m k v)
  most_with_pair [] k v = omega arith
  most_with_pair (e ∷ es) k v = with_pair_by (order k e.0) k v e es (with_pair es k v) (most_with_pair es k v)

  most_with_change : (m : List (List ℕ × V)) (k : List ℕ) (o : Option V) → length m ≤ length (with_change m k o) + 1
  most_with_change m k None = most_without m k
  most_with_change m k (Some v) = let h = most_with_pair m k v in omega (arith, h)

  -- a run deletes at most as many entries as it has keys
  pub most_with_run : (m : List (List ℕ × V)) (run : List (List ℕ × Option V)) → length m ≤ length (with_run m run) + length run
  most_with_run m [] = omega arith
  most_with_run m (c ∷ cs) =
      let one = most_with_change m c.0 c.1 in
      let rest = most_with_run (with_change m c.0 c.1) cs in
      omega (arith, one, rest)

  -- at least `fewest` less n entries are there, where a run of n changes is applied
  pub still_fewest : (n fewest left : ℕ) (m : List (List ℕ × V)) (run : List (List ℕ × Option V)) → fewest ≤ length m → n ≡ length run → left ≡ fewest - n → left ≤ length (with_run m run)
  still_fewest n fewest left m run h e s = let most = most_with_run m run in omega (arith, most)

  -- ---- how many more

  without_less_by : (b : Bool) (e : List ℕ × V) (es rest : List (List ℕ × V)) → length rest ≤ length es → length (cond b es (e ∷ rest)) ≤ suc (length es)
  without_less_by true e es rest h = omega arith
  without_less_by false e es rest h = omega arith

  least_without : (m : List (List ℕ × V)) (k : List ℕ) → length (without m k) ≤ length m
  least_without [] k = omega arith
  least_without (e ∷ es) k = without_less_by (is_eq (order k e.0)) e es (without es k) (least_without es k)

  with_pair_less_by : (o : Ordering) (k : List ℕ) (v : V) (e : List ℕ × V) (es rest : List (List ℕ × V)) → length rest ≤ length es + 1 → length (match_ordering o ((k, v) ∷ e ∷ es) ((e.0, v) ∷ es) (e ∷ rest)) ≤ suc (length es) + 1
  with_pair_less_by Less k v e es rest h = omega arith
  with_pair_less_by Equal k v e es rest h = omega arith
  with_pair_less_by Greater k v e es rest h = omega arith

  least_with_pair : (m : List (List ℕ × V)) (k : List ℕ) (v : V) → length (with_pair m k v) ≤ length m + 1
  least_with_pair [] k v = omega arith
  least_with_pair (e ∷ es) k v = with_pair_less_by (order k e.0) k v e es (with_pair es k v) (least_with_pair es k v)

  least_with_change : (m : List (List ℕ × V)) (k : List ℕ) (o : Option V) → length (with_change m k o) ≤ length m + 1
  least_with_change m k None = let h = least_without m k in omega (arith, h)
  least_with_change m k (Some v) = least_with_pair m k v

  -- a run adds at most as many entries as it has keys
  pub least_with_run : (m : List (List ℕ × V)) (run : List (List ℕ × Option V)) → length (with_run m run) ≤ length m + length run
  least_with_run m [] = omega arith
  least_with_run m (c ∷ cs) =
      let one = least_with_change m c.0 c.1 in
      let rest = least_with_run (with_change m c.0 c.1) cs in
      omega (arith, one, rest)

  -- at most `most` + n entries are there, where a run of n changes is applied
  pub still_most : (n most more top : ℕ) (m : List (List ℕ × V)) (run : List (List ℕ × Option V)) → min (length m) top ≤ most → n ≡ length run → more ≡ min (most + n) top → min (length (with_run m run)) top ≤ more
  still_most n most more top m run h e s = let least = least_with_run m run in omega (arith, least, h, e, s)

  -- and if it is undone
  pub most_before : (n most more top : ℕ) (m : List (List ℕ × V)) (run : List (List ℕ × Option V)) → min (length (with_run m run)) top ≤ most → n ≡ length run → more ≡ min (most + n) top → min (length m) top ≤ more
  most_before n most more top m run h e s = let least = most_with_run m run in omega (arith, least, h, e, s)
