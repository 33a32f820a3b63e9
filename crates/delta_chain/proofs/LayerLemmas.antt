-- Lemmas on runs, on what a page holds and on its entries, for the proofs of this crate and of those above it.
use Rattle.std.specs.Prelude.{◌≡◌, ℕ, Bool, true, false, cond, List, [], ◌∷◌, Option, Some, None}
use Rattle.std.proofs.Common.{refl, ap, ◌∙◌}
use Rattle.std.specs.Ordering.{is_eq}
use Rattle.std.specs.Map.{keys_of}
use Rattle.std.proofs.lemmas.Map.Keys.{sorted_tail}
use Rattle.keys.specs.Order.{order, IsRising}
use Rattle.keys.specs.OrderedMap.{value_at, with_pair}
use Rattle.keys.proofs.MapLemmas.{alike, passes_same, value_at-with_pair_here, value_at-with_pair_apart, value_at-without, value_at_rest, rising-with_pair, rising-without}
use Rattle.delta_chain.specs.Layers.{Layers, change_or, held_under, holds, with_change, with_run, entries_under, entries_of, AllRise, IsInOrder}

module _ {V : Type 0} where
  -- ---- one change

  change_by : (b : Bool) (m : List (List ℕ × V)) (k q : List ℕ) (o : Option V) → IsRising m → is_eq (order q k) ≡ b → value_at q (with_change m k o) ≡ cond b o (value_at q m)
  change_by b m k q None r h = value_at-without m k q r ∙ ap (λ (t : Bool). cond t None (value_at q m)) (alike.symm k q ∙ h)
  change_by true m k q (Some v) r h = ap (λ (j : List ℕ). value_at j (with_pair m k v)) (passes_same q k h) ∙ value_at-with_pair_here m k v
  change_by false m k q (Some v) r h = value_at-with_pair_apart m k q v h

  -- the changed key has what the change says, every other key what it had
  pub value_at-with_change : (m : List (List ℕ × V)) (k q : List ℕ) (o : Option V) → IsRising m → value_at q (with_change m k o) ≡ cond (is_eq (order q k)) o (value_at q m)
  value_at-with_change m k q o r = change_by (is_eq (order q k)) m k q o r refl

  pub rising-with_change : (m : List (List ℕ × V)) (k : List ℕ) (o : Option V) → IsRising m → IsRising (with_change m k o)
  rising-with_change m k None r = rising-without m k r
  rising-with_change m k (Some v) r = rising-with_pair m k v r

  -- ---- a run

  pub rising-with_run : (m : List (List ℕ × V)) (run : List (List ℕ × Option V)) → IsRising m → IsRising (with_run m run)
  rising-with_run m [] r = r
  rising-with_run m (c ∷ cs) r = rising-with_run (with_change m c.0 c.1) cs (rising-with_change m c.0 c.1 r)

  -- the later changes say nothing of the first key
  first_change_by : (b : Bool) (o : Option V) (later : Option (Option V)) (old : Option V) → later ≡ cond b None later → change_or later (cond b o old) ≡ change_or (cond b (Some o) later) old
  first_change_by true o later old h = ap (λ (t : Option (Option V)). change_or t o) h
  first_change_by false o later old h = refl

  later_by : (b : Bool) (later whole : Option (Option V)) → later ≡ cond b None whole → later ≡ cond b None later
  later_by true later whole h = h
  later_by false later whole h = refl

  -- entries with a run applied have what the run says, else what they had
  pub value_at-with_run : (m : List (List ℕ × V)) (run : List (List ℕ × Option V)) (q : List ℕ) → IsRising m → IsRising run → value_at q (with_run m run) ≡ change_or (value_at q run) (value_at q m)
  value_at-with_run m [] q r s = refl
  value_at-with_run m (c ∷ cs) q r s =
      value_at-with_run (with_change m c.0 c.1) cs q (rising-with_change m c.0 c.1 r) (sorted_tail order c.0 (keys_of cs) s)
      ∙ ap (λ (t : Option V). change_or (value_at q cs) t) (value_at-with_change m c.0 q c.1 r)
      ∙ first_change_by (is_eq (order q c.0)) c.1 (value_at q cs) (value_at q m) (later_by (is_eq (order q c.0)) (value_at q cs) (value_at q (c ∷ cs)) (value_at_rest c cs q s))

  -- ---- a page

  pub rising-entries_under : (runs : List (List (List ℕ × Option V))) (base : List (List ℕ × V)) → AllRise runs base → IsRising (entries_under runs base)
  rising-entries_under [] base a = a
  rising-entries_under (run ∷ runs) base a = rising-with_run (entries_under runs base) run (rising-entries_under runs base a.1)

  pub rising-entries_of : (p : Layers V) → IsInOrder p → IsRising (entries_of p)
  rising-entries_of p a = rising-entries_under p.runs p.base a

  pub value_at-entries_under : (runs : List (List (List ℕ × Option V))) (base : List (List ℕ × V)) (q : List ℕ) → AllRise runs base → value_at q (entries_under runs base) ≡ held_under q runs base
  value_at-entries_under [] base q a = refl
  value_at-entries_under (run ∷ runs) base q a =
      value_at-with_run (entries_under runs base) run q (rising-entries_under runs base a.1) a.0
      ∙ ap (λ (t : Option V). change_or (value_at q run) t) (value_at-entries_under runs base q a.1)

  -- what a page's entries have at a key is what the page holds there
  pub value_at-entries_of : (p : Layers V) (q : List ℕ) → IsInOrder p → value_at q (entries_of p) ≡ holds p q
  value_at-entries_of p q a = value_at-entries_under p.runs p.base q a
