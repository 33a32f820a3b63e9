-- Lemmas on runs over the pages of a level, for the proofs of this crate and of those above it.
use Rattle.std.specs.Prelude.{◌≡◌, ℕ, Bool, true, false, not, cond, List, [], ◌∷◌, ◌++◌, Option, Some, None}
use Rattle.std.proofs.Common.{refl, sym, ap, ◌∙◌, append-nil, Ordering, Less, Equal, Greater}
use Rattle.std.specs.Ordering.{is_eq, match_ordering}
use Rattle.std.specs.List.{AllByRecursion}
use Rattle.std.specs.Map.{keys_of}
use Rattle.keys.specs.Order.{order}
use Rattle.keys.specs.OrderedMap.{with_pair, without}
use Rattle.keys.proofs.MapLemmas.{total, IsBelowAll, all_keys-with_pair, all_keys-without}
use Rattle.keys.specs.declared.settings.Settings.{Settings}
use Rattle.delta_chain.specs.Layers.{Layers, with_change, with_run}
use Rattle.index_page.specs.Page.{Page, changes_over}
use Rattle.index_page.specs.Page as page
use Rattle.index_page.specs.Range.{is_below, AreBelow, AreFrom}
use Rattle.index_page.proofs.ListLemmas.{all-append}
use Rattle.index_page.proofs.RangeLemmas.{less_through, below_all_from}
use Rattle.index_page.proofs.PageLemmas.{all-with_run, all_entries, all_keys_entries, all-as_changes}
use Rattle.mapping.specs.Levels.{Placed, entries, joined, name, names}
use Rattle.mapping.specs.Proper.{Tiled}
use Rattle.mapping.proofs.TileLemmas.{from-joined}
use Rattle.page_runs.specs.AfterRun.{must_replace, replaced, in_front, after_run}
use Rattle.page_runs.proofs.AfterLemmas.{entries_of-after_run}
use Rattle.page_runs.specs.Updated.{updated}
use Rattle.split_plan.specs.UpdatedLevel.{part_below, part_from, updated_leaves, updated_parents, placed_of}

-- ---- a run over pairs in two parts

module _ {V : Type 0} where
  without_absent : (k : List ℕ) (es : List (List ℕ × V)) → IsBelowAll k (keys_of es) → without es k ≡ es
  without_absent k [] a = refl
  without_absent k (e ∷ es) a = rw a.0 (ap (λ (rest : List (List ℕ × V)). e ∷ rest) (without_absent k es a.1))

  change_after : (e : List ℕ × V) (es : List (List ℕ × V)) (k : List ℕ) (o : Option V) → order k e.0 ≡ Greater → with_change (e ∷ es) k o ≡ e ∷ with_change es k o
  change_after e es k None h = rw h refl
  change_after e es k (Some v) h = rw h refl

  put_left_by : (o : Ordering) (x : List ℕ × V) (xs ys : List (List ℕ × V)) (k : List ℕ) (v : V) → with_pair (xs ++ ys) k v ≡ with_pair xs k v ++ ys → match_ordering o ((k, v) ∷ x ∷ (xs ++ ys)) ((x.0, v) ∷ (xs ++ ys)) (x ∷ with_pair (xs ++ ys) k v) ≡ match_ordering o ((k, v) ∷ x ∷ xs) ((x.0, v) ∷ xs) (x ∷ with_pair xs k v) ++ ys
  put_left_by Less x xs ys k v ih = refl
  put_left_by Equal x xs ys k v ih = refl
  put_left_by Greater x xs ys k v ih = ap (λ (rest : List (List ℕ × V)). x ∷ rest) ih

  put_left : (xs ys : List (List ℕ × V)) (k : List ℕ) (v : V) (q : List ℕ) → is_below k q ≡ true → AreFrom q (keys_of ys) → with_pair (xs ++ ys) k v ≡ with_pair xs k v ++ ys
  put_left [] [] k v q h a = refl
  put_left [] (y ∷ ys) k v q h a = rw (less_through k y.0 q h a.0) refl
  put_left (x ∷ xs) ys k v q h a = put_left_by (order k x.0) x xs ys k v (put_left xs ys k v q h a)

  delete_left_by : (b : Bool) (x : List ℕ × V) (xs ys : List (List ℕ × V)) (k : List ℕ) → without (xs ++ ys) k ≡ without xs k ++ ys → cond b (xs ++ ys) (x ∷ without (xs ++ ys) k) ≡ cond b xs (x ∷ without xs k) ++ ys
  delete_left_by true x xs ys k ih = refl
  delete_left_by false x xs ys k ih = ap (λ (rest : List (List ℕ × V)). x ∷ rest) ih

  delete_left : (xs ys : List (List ℕ × V)) (k q : List ℕ) → is_below k q ≡ true → AreFrom q (keys_of ys) → without (xs ++ ys) k ≡ without xs k ++ ys
  delete_left [] ys k q h a = without_absent k ys (below_all_from k q (keys_of ys) h a)
  delete_left (x ∷ xs) ys k q h a = delete_left_by (is_eq (order k x.0)) x xs ys k (delete_left xs ys k q h a)

  -- a change to a key below q leaves the pairs from q on
  change_left : (xs ys : List (List ℕ × V)) (k : List ℕ) (o : Option V) (q : List ℕ) → is_below k q ≡ true → AreFrom q (keys_of ys) → with_change (xs ++ ys) k o ≡ with_change xs k o ++ ys
  change_left xs ys k None q h a = delete_left xs ys k q h a
  change_left xs ys k (Some v) q h a = put_left xs ys k v q h a

  -- a change to another key leaves the pairs below q
  change_right : (xs ys : List (List ℕ × V)) (k : List ℕ) (o : Option V) (q : List ℕ) → is_below k q ≡ false → AreBelow q (keys_of xs) → with_change (xs ++ ys) k o ≡ xs ++ with_change ys k o
  change_right [] ys k o q h a = refl
  change_right (x ∷ xs) ys k o q h a =
      let g : order k x.0 ≡ Greater = rw (total.antisymm k x.0, less_through x.0 k q a.0 h) refl in
      change_after x (xs ++ ys) k o g ∙ ap (λ (rest : List (List ℕ × V)). x ∷ rest) (change_right xs ys k o q h a.1)

  all_keys-with_change : (P : List ℕ → Type 0) (es : List (List ℕ × V)) (k : List ℕ) (o : Option V) → P k → AllByRecursion P (keys_of es) → AllByRecursion P (keys_of (with_change es k o))
  all_keys-with_change P es k None p a = all_keys-without P es k a
  all_keys-with_change P es k (Some v) p a = all_keys-with_pair P es k v p a

  two_parts_by : (b : Bool) (xs ys : List (List ℕ × V)) (c : List ℕ × Option V) (cs : List (List ℕ × Option V)) (q : List ℕ) → is_below c.0 q ≡ b → AreBelow q (keys_of xs) → AreFrom q (keys_of ys) → ((ls rs : List (List ℕ × V)) → AreBelow q (keys_of ls) → AreFrom q (keys_of rs) → with_run (ls ++ rs) cs ≡ with_run ls (part_below q cs) ++ with_run rs (part_from q cs)) → with_run (with_change (xs ++ ys) c.0 c.1) cs ≡ with_run xs (cond b (c ∷ part_below q cs) (part_below q cs)) ++ with_run ys (cond (not b) (c ∷ part_from q cs) (part_from q cs))
  two_parts_by true xs ys c cs q h l r ih =
      ap (λ (m : List (List ℕ × V)). with_run m cs) (change_left xs ys c.0 c.1 q h r)
      ∙ ih (with_change xs c.0 c.1) ys (all_keys-with_change (λ j. is_below j q ≡ true) xs c.0 c.1 h l) r
  two_parts_by false xs ys c cs q h l r ih =
      ap (λ (m : List (List ℕ × V)). with_run m cs) (change_right xs ys c.0 c.1 q h l)
      ∙ ih xs (with_change ys c.0 c.1) l (all_keys-with_change (λ j. is_below j q ≡ false) ys c.0 c.1 h r)

  -- a run over pairs below q and pairs from q on is its part below q over those, and its part from q on over these
  pub with_run-append : (run : List (List ℕ × Option V)) (q : List ℕ) (xs ys : List (List ℕ × V)) → AreBelow q (keys_of xs) → AreFrom q (keys_of ys) → with_run (xs ++ ys) run ≡ with_run xs (part_below q run) ++ with_run ys (part_from q run)
  with_run-append [] q xs ys l r = refl
  with_run-append (c ∷ cs) q xs ys l r = two_parts_by (is_below c.0 q) xs ys c cs q refl l r (λ ls rs. with_run-append cs q ls rs)

-- ---- pages after their runs

module _ {V : Type 0} where
  -- a page's entries after a run are its entries with the run applied
  pub entries-updated : (s : Settings) (p : Placed V) (run : List (List ℕ × Option V)) → entries (updated s p run).placed ≡ with_run (entries p) run
  entries-updated s p run = entries_of-after_run s p.page.layers run

  -- leaves after their parts of a run have the run applied to all their entries
  pub joined-updated_leaves : (s : Settings) (run : List (List ℕ × Option V)) (p : Placed V) (ps : List (Placed V)) (end : Option (List ℕ)) → Tiled (p ∷ ps) end → joined (placed_of (updated_leaves s run (p ∷ ps))) ≡ with_run (joined (p ∷ ps)) run
  joined-updated_leaves s run p [] end h =
      append-nil (entries (updated s p run).placed) ∙ entries-updated s p run ∙ ap (λ (m : List (List ℕ × V)). with_run m run) (sym (append-nil (entries p)))
  joined-updated_leaves s run p (q ∷ qs) end h =
      let k : List ℕ = q.page.low in
      ap (λ (m : List (List ℕ × V)). m ++ joined (placed_of (updated_leaves s (part_from k run) (q ∷ qs)))) (entries-updated s p (part_below k run))
      ∙ ap (λ (m : List (List ℕ × V)). with_run (entries p) (part_below k run) ++ m) (joined-updated_leaves s (part_from k run) q qs end h.1)
      ∙ sym (with_run-append run k (entries p) (joined (q ∷ qs)) (all_keys_entries (λ j. is_below j k ≡ true) p.page h.0.keys.before) (from-joined q qs end h.1))

  -- pages keep their pids and low keys
  pub names-updated_leaves : (s : Settings) (run : List (List ℕ × Option V)) (ps : List (Placed V)) → names (placed_of (updated_leaves s run ps)) ≡ names ps
  names-updated_leaves s run [] = refl
  names-updated_leaves s run (p ∷ []) = refl
  names-updated_leaves s run (p ∷ q ∷ qs) = ap (λ (ns : List (List ℕ × ℕ)). name p ∷ ns) (names-updated_leaves s (part_from q.page.low run) (q ∷ qs))

  pub names-updated_parents : (s : Settings) (ps : List (Placed V)) (runs : List (List (List ℕ × Option V))) → names (placed_of (updated_parents s ps runs)) ≡ names ps
  names-updated_parents s [] runs = refl
  names-updated_parents s (p ∷ ps) [] = ap (λ (ns : List (List ℕ × ℕ)). name p ∷ ns) (names-updated_parents s ps [])
  names-updated_parents s (p ∷ ps) (run ∷ runs) = ap (λ (ns : List (List ℕ × ℕ)). name p ∷ ns) (names-updated_parents s ps runs)

  -- ---- what a page says after a run

  module _ (P : List ℕ × Option V → Type 0) where
    joined_changes : (b : Bool) (p : Layers V) (run : List (List ℕ × Option V)) → AllByRecursion P run → AllByRecursion P (changes_over p.runs p.base) → AllByRecursion P (changes_over (cond b (replaced p run) (in_front p run)).runs (cond b (replaced p run) (in_front p run)).base)
    joined_changes true p run a b =
        let q : Page V = record { low = []; layers = p } in
        all-as_changes P (page.entries (record { low = []; layers = replaced p run })) (all-with_run P (page.entries q) run (all_entries P q b) a)
    joined_changes false p run a b = all-append P run (changes_over p.runs p.base) a b

    -- what holds of all that a page says, and of a run, holds of all that the page says after the run
    pub all_said-after_run : (s : Settings) (p : Layers V) (run : List (List ℕ × Option V)) → AllByRecursion P run → AllByRecursion P (changes_over p.runs p.base) → AllByRecursion P (changes_over (after_run s p run).runs (after_run s p run).base)
    all_said-after_run s p [] a b = b
    all_said-after_run s p (c ∷ cs) a b = joined_changes (must_replace s p (c ∷ cs)) p (c ∷ cs) a b
