-- Lemmas on the changes and the entries of a page, for the proofs of this crate and of those above it.
use Rattle.std.specs.Prelude.{◌≡◌, ℕ, Bool, true, false, cond, List, [], ◌∷◌, Option, Some, None}
use Rattle.std.proofs.Common.{refl, subst, Ordering, Less, Equal, Greater}
use Rattle.std.specs.Ordering.{is_eq, match_ordering}
use Rattle.std.specs.List.{AllByRecursion}
use Rattle.std.specs.Map.{keys_of}
use Rattle.keys.specs.Order.{order}
use Rattle.keys.specs.OrderedMap.{with_pair, without}
use Rattle.keys.proofs.MapLemmas.{same_key}
use Rattle.delta_chain.specs.Layers.{with_change, with_run, entries_under}
use Rattle.index_page.specs.Page.{Page, entries, as_changes, changes_over, said, named}
use Rattle.index_page.proofs.ListLemmas.{all_apart, all_keyed, all_keys}

module _ {V : Type 0} (P : List ℕ × V → Type 0) where
  pair_by : (o : Ordering) (m rest : List (List ℕ × V)) (e : List ℕ × V) (k : List ℕ) (v : V) → order k e.0 ≡ o → P (k, v) → P e → AllByRecursion P m → AllByRecursion P rest → AllByRecursion P (match_ordering o ((k, v) ∷ e ∷ m) ((e.0, v) ∷ m) (e ∷ rest))
  pair_by Less m rest e k v h p q a b = (p, (q, a))
  pair_by Equal m rest e k v h p q a b = (subst (λ (j : List ℕ). P (j, v)) (same_key k e.0 h) p, a)
  pair_by Greater m rest e k v h p q a b = (q, b)

  -- what holds of each pair, and of the one that is set, holds of each pair afterwards
  pub all-with_pair : (m : List (List ℕ × V)) (k : List ℕ) (v : V) → P (k, v) → AllByRecursion P m → AllByRecursion P (with_pair m k v)
  all-with_pair [] k v p a = (p, tt)
  all-with_pair (e ∷ es) k v p a = pair_by (order k e.0) es (with_pair es k v) e k v refl p a.0 a.1 (all-with_pair es k v p a.1)

  without_by : (b : Bool) (m rest : List (List ℕ × V)) (e : List ℕ × V) → P e → AllByRecursion P m → AllByRecursion P rest → AllByRecursion P (cond b m (e ∷ rest))
  without_by true m rest e p a b = a
  without_by false m rest e p a b = (p, b)

  pub all-without : (m : List (List ℕ × V)) (k : List ℕ) → AllByRecursion P m → AllByRecursion P (without m k)
  all-without [] k a = tt
  all-without (e ∷ es) k a = without_by (is_eq (order k e.0)) es (without es k) e a.0 a.1 (all-without es k a.1)

module _ {V : Type 0} (P : List ℕ × Option V → Type 0) where
  -- what holds of each pair, taken as a change
  abbrev AllPairs : List (List ℕ × V) → Type 0
  AllPairs es = AllByRecursion (λ e. P (e.0, Some e.1)) es

  pub all-as_changes : (es : List (List ℕ × V)) → AllPairs es → AllByRecursion P (as_changes es)
  all-as_changes [] a = tt
  all-as_changes (e ∷ es) a = (a.0, all-as_changes es a.1)

  pub all_from_changes : (es : List (List ℕ × V)) → AllByRecursion P (as_changes es) → AllPairs es
  all_from_changes [] a = tt
  all_from_changes (e ∷ es) a = (a.0, all_from_changes es a.1)

  all-with_change : (m : List (List ℕ × V)) (k : List ℕ) (o : Option V) → P (k, o) → AllPairs m → AllPairs (with_change m k o)
  all-with_change m k None p a = all-without (λ e. P (e.0, Some e.1)) m k a
  all-with_change m k (Some v) p a = all-with_pair (λ e. P (e.0, Some e.1)) m k v p a

  -- what holds of each pair and of each change of a run holds of each pair after the run
  pub all-with_run : (m : List (List ℕ × V)) (run : List (List ℕ × Option V)) → AllPairs m → AllByRecursion P run → AllPairs (with_run m run)
  all-with_run m [] a b = a
  all-with_run m (c ∷ cs) a b = all-with_run (with_change m c.0 c.1) cs (all-with_change m c.0 c.1 b.0 a) b.1

  all_entries_under : (runs : List (List (List ℕ × Option V))) (base : List (List ℕ × V)) → AllByRecursion P (changes_over runs base) → AllPairs (entries_under runs base)
  all_entries_under [] base a = all_from_changes base a
  all_entries_under (run ∷ runs) base a =
      let b = all_apart P run (changes_over runs base) a in
      all-with_run (entries_under runs base) run (all_entries_under runs base b.1) b.0

  -- what holds of all changes and pairs of a page holds of its entries
  pub all_entries : (p : Page V) → AllByRecursion P (said p) → AllPairs (entries p)
  all_entries p a = all_entries_under p.layers.runs p.layers.base a

module _ {V : Type 0} (P : List ℕ → Type 0) where
  pub all_keys-with_run : (m : List (List ℕ × V)) (run : List (List ℕ × Option V)) → AllByRecursion P (keys_of m) → AllByRecursion P (keys_of run) → AllByRecursion P (keys_of (with_run m run))
  all_keys-with_run m run a b = all_keys P (with_run m run) (all-with_run (λ (c : List ℕ × Option V). P c.0) m run (all_keyed P m a) (all_keyed P run b))

  -- what holds of all keys of a page holds of its entries' keys
  pub all_keys_entries : (p : Page V) → AllByRecursion P (named p) → AllByRecursion P (keys_of (entries p))
  all_keys_entries p a = all_keys P (entries p) (all_entries (λ (c : List ℕ × Option V). P c.0) p (all_keyed P (said p) a))

  -- what holds of the keys of a base holds of the keys of its pairs taken as changes
  pub all_keys-as_changes : (es : List (List ℕ × V)) → AllByRecursion P (keys_of es) → AllByRecursion P (keys_of (as_changes es))
  all_keys-as_changes [] a = tt
  all_keys-as_changes (e ∷ es) a = (a.0, all_keys-as_changes es a.1)
