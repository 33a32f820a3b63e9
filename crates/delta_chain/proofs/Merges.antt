-- How a run is applied to pairs, from their fronts on, for the proofs of this crate and of those above it.
use Rattle.std.proofs.Common.{◌≡◌, ◌+◌, ◌-◌, ◌<◌, ◌≤◌, ℕ, zero, suc, List, [], ◌∷◌, ◌++◌, length, drop, slice_get, Option, Some, None, refl, sym, ap, ◌∙◌, arith, append_assoc, Ordering, Less, Equal, Greater}
use Rattle.std.specs.Map.{keys_of, values_of}
use Rattle.std.proofs.lemmas.Map.Keys.{sorted_head, sorted_tail}
use Rattle.keys.specs.Order.{order, IsRising}
use Rattle.keys.specs.OrderedMap.{without}
use Rattle.keys.proofs.MapLemmas.{IsBelowAll, below_all, same_key, order_itself, flipped_less, flipped_greater}
use Rattle.delta_chain.specs.Layers.{with_change, with_run}
use Rattle.delta_chain.specs.Merging.{pair_if, first_order}
use Rattle.delta_chain.proofs.Places.{drop_pair, front_under, front_at}

-- one step of a merge leaves fewer pairs and changes together
pub fewer_pairs : (from under at run : ℕ) → from < under → (under - (from + 1)) + (run - at) < (under - from) + (run - at)
fewer_pairs from under at run l = omega arith

pub fewer_changes : (from under at run : ℕ) → at < run → (under - from) + (run - (at + 1)) < (under - from) + (run - at)
fewer_changes from under at run l = omega arith

module _ {T : Type 0} where
  -- the entries from a place on rise too
  pub rising_after : (n : ℕ) (es : List (List ℕ × T)) → IsRising es → IsRising (drop n es)
  rising_after zero es r = r
  rising_after (suc n) [] r = r
  rising_after (suc n) (e ∷ es) r = rising_after n es (sorted_tail order e.0 (keys_of es) r)

module _ {V : Type 0} where
  -- ---- changes at the front

  -- a change above the first key leaves that pair
  change_after : (e : List ℕ × V) (es : List (List ℕ × V)) (k : List ℕ) (o : Option V) → order e.0 k ≡ Less → with_change (e ∷ es) k o ≡ e ∷ with_change es k o
  change_after e es k None h = rw (flipped_less e.0 k h) refl
  change_after e es k (Some v) h = rw (flipped_less e.0 k h) refl

  -- and so does a run above it
  pub run_after : (e : List ℕ × V) (es : List (List ℕ × V)) (run : List (List ℕ × Option V)) → IsBelowAll e.0 (keys_of run) → with_run (e ∷ es) run ≡ e ∷ with_run es run
  run_after e es [] a = refl
  run_after e es (c ∷ cs) a = ap (λ (m : List (List ℕ × V)). with_run m cs) (change_after e es c.0 c.1 a.0) ∙ run_after e (with_change es c.0 c.1) cs a.1

  without_absent : (k : List ℕ) (es : List (List ℕ × V)) → IsBelowAll k (keys_of es) → without es k ≡ es
  without_absent k [] a = refl
  without_absent k (e ∷ es) a = rw a.0 (ap (λ (m : List (List ℕ × V)). e ∷ m) (without_absent k es a.1))

  -- a change below every key goes in front
  change_in_front : (es : List (List ℕ × V)) (k : List ℕ) (o : Option V) → IsRising es → first_order es k ≡ Greater → with_change es k o ≡ pair_if k o ++ es
  change_in_front [] k None r h = refl
  change_in_front [] k (Some v) r h = refl
  change_in_front (e ∷ es) k None r h =
      let l : order k e.0 ≡ Less = flipped_greater e.0 k h in
      without_absent k (e ∷ es) (l, below_all k e.0 (keys_of es) l (sorted_head order e.0 (keys_of es) r))
  change_in_front (e ∷ es) k (Some v) r h = rw (flipped_greater e.0 k h) refl

  -- a change of the first key is the same without the pair that has it
  change_of_first : (e : List ℕ × V) (es : List (List ℕ × V)) (o : Option V) → IsRising (e ∷ es) → with_change (e ∷ es) e.0 o ≡ with_change es e.0 o
  change_of_first e es None r = rw (order_itself e.0) (sym (without_absent e.0 es (sorted_head order e.0 (keys_of es) r)))
  change_of_first e [] (Some v) r = rw (order_itself e.0) refl
  change_of_first e (f ∷ es) (Some v) r = let below = sorted_head order e.0 (keys_of (f ∷ es)) r in rw (order_itself e.0, below.0) refl

  -- ---- the three steps, at the fronts of the pairs and of the run

  pub first_stays : (e : List ℕ × V) (es : List (List ℕ × V)) (c : List ℕ × Option V) (cs : List (List ℕ × Option V)) → IsRising (c ∷ cs) → order e.0 c.0 ≡ Less → with_run (e ∷ es) (c ∷ cs) ≡ e ∷ with_run es (c ∷ cs)
  first_stays e es c cs r h = run_after e es (c ∷ cs) (h, below_all e.0 c.0 (keys_of cs) h (sorted_head order c.0 (keys_of cs) r))

  pub first_goes : (e : List ℕ × V) (es : List (List ℕ × V)) (c : List ℕ × Option V) (cs : List (List ℕ × Option V)) → IsRising (e ∷ es) → order e.0 c.0 ≡ Equal → with_run (e ∷ es) (c ∷ cs) ≡ with_run es (c ∷ cs)
  first_goes e es c cs r h =
      let s : e.0 ≡ c.0 = same_key e.0 c.0 h in
      ap (λ (m : List (List ℕ × V)). with_run m cs)
      (ap (λ (k : List ℕ). with_change (e ∷ es) k c.1) (sym s) ∙ change_of_first e es c.1 r ∙ ap (λ (k : List ℕ). with_change es k c.1) s)

  change_goes : (es : List (List ℕ × V)) (k : List ℕ) (o : Option V) (cs : List (List ℕ × Option V)) → IsBelowAll k (keys_of cs) → with_run (pair_if k o ++ es) cs ≡ pair_if k o ++ with_run es cs
  change_goes es k None cs a = refl
  change_goes es k (Some v) cs a = run_after (k, v) es cs a

  pub change_stays : (es : List (List ℕ × V)) (c : List ℕ × Option V) (cs : List (List ℕ × Option V)) → IsRising es → IsRising (c ∷ cs) → first_order es c.0 ≡ Greater → with_run es (c ∷ cs) ≡ pair_if c.0 c.1 ++ with_run es cs
  change_stays es c cs r s h =
      ap (λ (m : List (List ℕ × V)). with_run m cs) (change_in_front es c.0 c.1 r h) ∙ change_goes es c.0 c.1 cs (sorted_head order c.0 (keys_of cs) s)

  -- ---- the same, at places of the pairs and of the run

  pub less_step : (es : List (List ℕ × V)) (run : List (List ℕ × Option V)) (from at : ℕ) (j k : List ℕ) (v : V) (out all : List (List ℕ × V)) → IsRising run → slice_get (keys_of es) from ≡ Some j → slice_get (values_of es) from ≡ Some v → slice_get (keys_of run) at ≡ Some k → Less ≡ first_order (drop from es) k → out ++ with_run (drop from es) (drop at run) ≡ all → (out ++ (j, v) ∷ []) ++ with_run (drop (suc from) es) (drop at run) ≡ all
  less_step es run from at j k v out all r hj hv hk h t =
      let d : drop from es ≡ (j, v) ∷ drop (suc from) es = drop_pair es from j v hj hv in
      let c = front_under run at k hk in
      let l : first_order ((j, v) ∷ drop (suc from) es) k ≡ Less = rw d at (sym h) in
      let s : IsRising ((k, c.0) ∷ drop (suc at) run) = rw c.1 at (rising_after at run r) in
      let w : with_run (drop from es) (drop at run) ≡ (j, v) ∷ with_run (drop (suc from) es) (drop at run) = rw (d, c.1) (first_stays (j, v) (drop (suc from) es) (k, c.0) (drop (suc at) run) s l) in
      append_assoc out ((j, v) ∷ []) (with_run (drop (suc from) es) (drop at run)) ∙ ap (λ (m : List (List ℕ × V)). out ++ m) (sym w) ∙ t

  pub equal_step : (es : List (List ℕ × V)) (run : List (List ℕ × Option V)) (from at : ℕ) (k : List ℕ) (out all : List (List ℕ × V)) → IsRising es → from < length es → slice_get (keys_of run) at ≡ Some k → Equal ≡ first_order (drop from es) k → out ++ with_run (drop from es) (drop at run) ≡ all → out ++ with_run (drop (suc from) es) (drop at run) ≡ all
  equal_step es run from at k out all r n hk h t =
      let e = front_at es from n in
      let c = front_under run at k hk in
      let l : first_order (e.0 ∷ drop (suc from) es) k ≡ Equal = rw e.1 at (sym h) in
      let s : IsRising (e.0 ∷ drop (suc from) es) = rw e.1 at (rising_after from es r) in
      let w : with_run (drop from es) (drop at run) ≡ with_run (drop (suc from) es) (drop at run) = rw (e.1, c.1) (first_goes e.0 (drop (suc from) es) (k, c.0) (drop (suc at) run) s l) in
      ap (λ (m : List (List ℕ × V)). out ++ m) (sym w) ∙ t

  pub greater_step : (es : List (List ℕ × V)) (run : List (List ℕ × Option V)) (from at : ℕ) (k : List ℕ) (o : Option V) (out all : List (List ℕ × V)) → IsRising es → IsRising run → slice_get (keys_of run) at ≡ Some k → slice_get (values_of run) at ≡ Some o → Greater ≡ first_order (drop from es) k → out ++ with_run (drop from es) (drop at run) ≡ all → (out ++ pair_if k o) ++ with_run (drop from es) (drop (suc at) run) ≡ all
  greater_step es run from at k o out all r s hk ho h t =
      let f : drop at run ≡ (k, o) ∷ drop (suc at) run = drop_pair run at k o hk ho in
      let s' : IsRising ((k, o) ∷ drop (suc at) run) = rw f at (rising_after at run s) in
      let w : with_run (drop from es) (drop at run) ≡ pair_if k o ++ with_run (drop from es) (drop (suc at) run) = rw f (change_stays (drop from es) (k, o) (drop (suc at) run) (rising_after from es r) s' (sym h)) in
      append_assoc out (pair_if k o) (with_run (drop from es) (drop (suc at) run)) ∙ ap (λ (m : List (List ℕ × V)). out ++ m) (sym w) ∙ t

  -- if the first pair does not compare as Greater, there is a first pair
  pub there_is_one : (es : List (List ℕ × V)) (from : ℕ) (k : List ℕ) (o : Ordering) → o ≡ first_order (drop from es) k → (o ≡ Greater → ⊥) → from < length es
  there_is_one [] zero k o h n = absurd (n h)
  there_is_one [] (suc from) k o h n = absurd (n h)
  there_is_one (e ∷ es) zero k o h n = omega arith
  there_is_one (e ∷ es) (suc from) k o h n = let l : from < length es = there_is_one es from k o h n in omega arith

  pub run_past : (es : List (List ℕ × V)) (run : List (List ℕ × Option V)) (at : ℕ) → length run ≤ at → with_run es (drop at run) ≡ es
  run_past es [] zero h = refl
  run_past es [] (suc at) h = refl
  run_past es (c ∷ cs) zero h = absurd (omega arith)
  run_past es (c ∷ cs) (suc at) h = let l : length cs ≤ at = omega arith in run_past es cs at l

  -- at the run's end the remaining pairs are unchanged
  pub all_changes : (es : List (List ℕ × V)) (run : List (List ℕ × Option V)) (from at : ℕ) (out all : List (List ℕ × V)) → length run ≤ at → out ++ with_run (drop from es) (drop at run) ≡ all → out ++ drop from es ≡ all
  all_changes es run from at out all h t = ap (λ (m : List (List ℕ × V)). out ++ m) (sym (run_past (drop from es) run at h)) ∙ t
