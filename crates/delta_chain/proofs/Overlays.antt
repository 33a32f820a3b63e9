-- The merged changes of runs: merged with each other first, and then applied to the base. For the proofs of this crate and of those above it.
use Rattle.std.specs.Prelude.{◌≡◌, ℕ, zero, suc, Bool, true, false, cond, List, [], ◌∷◌, length, slice_get, Option, Some}
use Rattle.std.proofs.Common.{refl, sym, ap, ◌∙◌}
use Rattle.std.specs.Ordering.{is_eq}
use Rattle.std.specs.List.Sorted.{IsStrictlySortedBy}
use Rattle.std.specs.Map.{keys_of, values_of}
use Rattle.keys.specs.Order.{order, IsRising}
use Rattle.keys.specs.OrderedMap.{value_at}
use Rattle.keys.proofs.MapLemmas.{same_map}
use Rattle.delta_chain.specs.Layers.{change_or, held_under, with_run, entries_under, AllRise}
use Rattle.delta_chain.specs.Merging.{asserted, joined_changes}
use Rattle.delta_chain.proofs.LayerLemmas.{value_at-with_run, rising-with_run, rising-entries_under, value_at-entries_under}

pub rising-none : (V : Type 0) → IsRising {V = V} []
unfolding IsStrictlySortedBy
rising-none V = tt

module _ {V : Type 0} where
  pub keys_of-asserted : (run : List (List ℕ × Option V)) → keys_of (asserted run) ≡ keys_of run
  keys_of-asserted [] = refl
  keys_of-asserted (c ∷ cs) = ap (λ (ks : List (List ℕ)). c.0 ∷ ks) (keys_of-asserted cs)

  pub length-asserted : (run : List (List ℕ × Option V)) → length (asserted run) ≡ length run
  length-asserted [] = refl
  length-asserted (c ∷ cs) = ap suc (length-asserted cs)

  pub rising-asserted : (run : List (List ℕ × Option V)) → IsRising run → IsRising (asserted run)
  rising-asserted run r = rw (keys_of-asserted run) r

  pub key-asserted : (run : List (List ℕ × Option V)) (at : ℕ) (k : List ℕ) → slice_get (keys_of run) at ≡ Some k → slice_get (keys_of (asserted run)) at ≡ Some k
  key-asserted run at k h = rw (keys_of-asserted run) h

  pub change-asserted : (run : List (List ℕ × Option V)) (at : ℕ) (o : Option V) → slice_get (values_of run) at ≡ Some o → slice_get (values_of (asserted run)) at ≡ Some (Some o)
  change-asserted [] at o h = absurd (cc)
  change-asserted (c ∷ cs) zero o h = let s : c.1 ≡ o = cc in ap (λ (x : Option V). Some (Some x)) s
  change-asserted (c ∷ cs) (suc at) o h = change-asserted cs at o h

  -- ---- what they say at a key

  -- the change of a key in a newer run replaces the older one
  said_by_one : (b : Bool) (o : Option V) (here : Option (Option (Option V))) (rest : Option (Option V)) (older : Option (Option V)) (below : Option V)
      → change_or (change_or here older) below ≡ change_or rest (change_or older below)
      → change_or (change_or (cond b (Some (Some o)) here) older) below ≡ change_or (cond b (Some o) rest) (change_or older below)
  said_by_one true o here rest older below h = refl
  said_by_one false o here rest older below h = h

  pub said_over : (run : List (List ℕ × Option V)) (q : List ℕ) (older : Option (Option V)) (below : Option V) → change_or (change_or (value_at q (asserted run)) older) below ≡ change_or (value_at q run) (change_or older below)
  said_over [] q older below = refl
  said_over (c ∷ cs) q older below = said_by_one (is_eq (order q c.0)) c.1 (value_at q (asserted cs)) (value_at q cs) older below (said_over cs q older below)

  pub rising-joined_changes : (runs : List (List (List ℕ × Option V))) (base : List (List ℕ × V)) → AllRise runs base → IsRising (joined_changes runs)
  unfolding IsStrictlySortedBy
  rising-joined_changes [] base a = tt
  rising-joined_changes (run ∷ runs) base a = rising-with_run (joined_changes runs) (asserted run) (rising-joined_changes runs base a.1)

  pub held-joined_changes : (runs : List (List (List ℕ × Option V))) (base : List (List ℕ × V)) (q : List ℕ) → AllRise runs base → change_or (value_at q (joined_changes runs)) (value_at q base) ≡ held_under q runs base
  held-joined_changes [] base q a = refl
  held-joined_changes (run ∷ runs) base q a =
      ap (λ (t : Option (Option V)). change_or t (value_at q base)) (value_at-with_run (joined_changes runs) (asserted run) q (rising-joined_changes runs base a.1) (rising-asserted run a.0))
      ∙ said_over run q (value_at q (joined_changes runs)) (value_at q base)
      ∙ ap (λ (t : Option V). change_or (value_at q run) t) (held-joined_changes runs base q a.1)

  pub rising-base : (runs : List (List (List ℕ × Option V))) (base : List (List ℕ × V)) → AllRise runs base → IsRising base
  rising-base [] base a = a
  rising-base (run ∷ runs) base a = rising-base runs base a.1

  -- so the base with what they say together is the page's entries
  pub entries-joined_changes : (runs : List (List (List ℕ × Option V))) (base : List (List ℕ × V)) → AllRise runs base → with_run base (joined_changes runs) ≡ entries_under runs base
  entries-joined_changes runs base a =
      let r = rising-base runs base a in
      same_map (with_run base (joined_changes runs)) (entries_under runs base) (rising-with_run base (joined_changes runs) r) (rising-entries_under runs base a)
      (λ q. value_at-with_run base (joined_changes runs) q r (rising-joined_changes runs base a) ∙ held-joined_changes runs base q a ∙ sym (value_at-entries_under runs base q a))
