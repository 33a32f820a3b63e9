-- Lemmas on the pages of a tree in memory, for the proofs of this crate and of those above it.
use Rattle.std.specs.Prelude.{◌≡◌, ℕ, Bool, true, false, cond, List, [], ◌∷◌, ◌++◌, Option, Some, None, IsSome}
use Rattle.std.proofs.Common.{refl, ap, ◌∙◌}
use Rattle.std.specs.Ordering.{nat_cmp, is_eq}
use Rattle.std.specs.List.{AllByRecursion, filter}
use Rattle.std.specs.Map.{keys_of, lookup}
use Rattle.mapping.specs.Tree.{listed_at}
use Rattle.mapping.specs.Table.{is_same_pid, at_home}
use Rattle.mapping.specs.TreeInMemory.{home_pages}
use Rattle.mapping.specs.Slots.{listed_place, entry_if, slot_pids, table_of, is_home_place, is_home, home_pids}
use Rattle.mapping.specs.declared.slots.TablePlace.{TablePlace}
use Rattle.mapping.specs.declared.slots.TablePlace.TheVariants.{Vacant, Away, Home}
use Rattle.mapping.specs.declared.slots.TableSlot.{TableSlot}

module _ {P : Type 0} where
  found_by : (b : Bool) (p : P) (later : Option (Option P)) (here : Option P) → at_home later ≡ here → at_home (cond b (Some (Some p)) later) ≡ cond b (Some p) here
  found_by true p later here h = refl
  found_by false p later here h = h

  home_by : (n m : ℕ) (o : Option P) (es : List (ℕ × Option P)) → IsSome o → at_home (lookup (is_same_pid n) es) ≡ listed_at (home_pages es) n → at_home (lookup (is_same_pid n) ((m, o) ∷ es)) ≡ listed_at (home_pages ((m, o) ∷ es)) n
  home_by n m None es h e = absurd (cc)
  home_by n m (Some p) es h e = found_by (is_eq (nat_cmp n m)) p (lookup (is_same_pid n) es) (listed_at (home_pages es) n) e

  -- if no page is checked out, the page in the table under a pid is the one that is listed
  pub page-home : (es : List (ℕ × Option P)) (n : ℕ) → AllByRecursion (λ e. IsSome e.1) es → at_home (lookup (is_same_pid n) es) ≡ listed_at (home_pages es) n
  page-home [] n a = refl
  page-home (e ∷ es) n a = home_by n e.0 e.1 es a.0 (page-home es n a.1)

-- the pids of the slots whose pages are in the table are those of the pages
module _ {P : Type 0} where
  one-home : (pid : ℕ) (p : TablePlace P) (later : List ℕ) (es : List (ℕ × Option P)) → later ≡ keys_of (home_pages es)
      → cond (is_home_place p) (pid ∷ later) later ≡ keys_of (home_pages (entry_if pid (listed_place p) ++ es))
  one-home pid Vacant later es h = h
  one-home pid Away later es h = h
  one-home pid (Home p) later es h = ap (λ (x : List ℕ). pid ∷ x) h

  slot-home : (b : Bool) (s : TableSlot P) (ss : List (TableSlot P)) → slot_pids (cond b (s ∷ ss) ss) ≡ cond b (s.pid ∷ slot_pids ss) (slot_pids ss)
  slot-home true s ss = refl
  slot-home false s ss = refl

  pub pids-home : (ss : List (TableSlot P)) → home_pids ss ≡ keys_of (home_pages (table_of ss).places)
  pids-home [] = refl
  pids-home (s ∷ ss) = slot-home (is_home s) s (filter is_home ss) ∙ one-home s.pid s.page (home_pids ss) (table_of ss).places (pids-home ss)
