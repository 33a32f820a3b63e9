-- Lemmas on tiled pages after their runs, for the proofs of this crate and of those above it.
use Rattle.std.specs.Prelude.{◌≡◌, ℕ, Bool, true, false, not, cond, ⊤, List, [], ◌∷◌, Option, Some, None}
use Rattle.std.proofs.Common.{refl}
use Rattle.std.specs.List.{AllByRecursion}
use Rattle.std.specs.Map.{keys_of}
use Rattle.keys.specs.declared.settings.Settings.{Settings}
use Rattle.index_page.specs.Page.{said, named}
use Rattle.index_page.specs.Range.{is_below, AreBelow, AreFrom, AreBefore}
use Rattle.index_page.proofs.ListLemmas.{all_keyed, all_keys, all_keys-filter}
use Rattle.index_page.proofs.RangeLemmas.{before-filter, rising-filter, IsRunFor}
use Rattle.mapping.specs.Levels.{Placed}
use Rattle.mapping.specs.Proper.{next_low, IsTile, Tiled}
use Rattle.mapping.proofs.TileLemmas.{next_low-same}
use Rattle.page_runs.proofs.AfterLemmas.{in_order-after_run}
use Rattle.page_runs.specs.Updated.{updated}
use Rattle.split_plan.specs.UpdatedLevel.{part_below, part_from, updated_leaves, updated_parents, placed_of}
use Rattle.split_plan.proofs.RunLemmas.{all_said-after_run, names-updated_leaves, names-updated_parents}

module _ {X : Type 0} where
  below_by : (b : Bool) (k : List ℕ) (c : List ℕ × X) (rest : List (List ℕ × X)) → is_below c.0 k ≡ b → AreBelow k (keys_of rest) → AreBelow k (keys_of (cond b (c ∷ rest) rest))
  below_by true k c rest e h = (e, h)
  below_by false k c rest e h = h

  are_below : (k : List ℕ) (run : List (List ℕ × X)) → AreBelow k (keys_of (part_below k run))
  are_below k [] = tt
  are_below k (c ∷ cs) = below_by (is_below c.0 k) k c (part_below k cs) refl (are_below k cs)

  from_by : (b : Bool) (k : List ℕ) (c : List ℕ × X) (rest : List (List ℕ × X)) → is_below c.0 k ≡ b → AreFrom k (keys_of rest) → AreFrom k (keys_of (cond (not b) (c ∷ rest) rest))
  from_by true k c rest e h = h
  from_by false k c rest e h = (e, h)

  are_from : (k : List ℕ) (run : List (List ℕ × X)) → AreFrom k (keys_of (part_from k run))
  are_from k [] = tt
  are_from k (c ∷ cs) = from_by (is_below c.0 k) k c (part_from k cs) refl (are_from k cs)

  run_below : (low k : List ℕ) (end : Option (List ℕ)) (run : List (List ℕ × X)) → IsRunFor low end run → IsRunFor low (Some k) (part_below k run)
  run_below low k end run h = record {
    rising = rising-filter (λ c. is_below c.0 k) run h.rising;
    from = all_keys-filter (λ j. is_below j low ≡ false) (λ c. is_below c.0 k) run h.from;
    before = are_below k run;
  }

  run_from : (low k : List ℕ) (end : Option (List ℕ)) (run : List (List ℕ × X)) → IsRunFor low end run → IsRunFor k end (part_from k run)
  run_from low k end run h = record {
    rising = rising-filter (λ c. not (is_below c.0 k)) run h.rising;
    from = are_from k run;
    before = before-filter end (λ c. not (is_below c.0 k)) run h.before;
  }

module _ {V : Type 0} where
  -- what holds for the keys of a page and of a run holds for the keys of the page after the run
  pub all_named-updated : (P : List ℕ → Type 0) (s : Settings) (p : Placed V) (run : List (List ℕ × Option V)) → AllByRecursion P (keys_of run) → AllByRecursion P (named p.page) → AllByRecursion P (named (updated s p run).placed.page)
  all_named-updated P s p run a b =
      all_keys P (said (updated s p run).placed.page) (all_said-after_run (λ (c : List ℕ × Option V). P c.0) s p.page.layers run (all_keyed P run a) (all_keyed P (said p.page) b))

  before-updated : (end : Option (List ℕ)) (s : Settings) (p : Placed V) (run : List (List ℕ × Option V)) → AreBefore end (keys_of run) → AreBefore end (named p.page) → AreBefore end (named (updated s p run).placed.page)
  before-updated None s p run a b = tt
  before-updated (Some hi) s p run a b = all_named-updated (λ j. is_below j hi ≡ true) s p run a b

  -- a page keeps its range under a run for it
  pub tile-updated : (s : Settings) (p : Placed V) (run : List (List ℕ × Option V)) (end : Option (List ℕ)) → IsTile end p → IsRunFor p.page.low end run → IsTile end (updated s p run).placed
  tile-updated s p run end h k = record {
    keys = record {
      rising = in_order-after_run s p.page.layers run h.keys.rising k.rising;
      from = all_named-updated (λ j. is_below j p.page.low ≡ false) s p run k.from h.keys.from;
      before = before-updated end s p run k.before h.keys.before;
    };
    low = h.low;
  }

  -- leaves after their parts of a run are tiled
  pub tiled-updated_leaves : (s : Settings) (run : List (List ℕ × Option V)) (p : Placed V) (ps : List (Placed V)) (end : Option (List ℕ)) → Tiled (p ∷ ps) end → IsRunFor p.page.low end run → Tiled (placed_of (updated_leaves s run (p ∷ ps))) end
  tiled-updated_leaves s run p [] end h k = (tile-updated s p run end h.0 k, tt)
  tiled-updated_leaves s run p (q ∷ qs) end h k =
      let lower : List (List ℕ × Option V) = part_below q.page.low run in
      let upper : List (List ℕ × Option V) = part_from q.page.low run in
      let next : next_low (placed_of (updated_leaves s upper (q ∷ qs))) end ≡ Some q.page.low = next_low-same (placed_of (updated_leaves s upper (q ∷ qs))) (q ∷ qs) end (names-updated_leaves s upper (q ∷ qs)) in
      (rw next (tile-updated s p lower (Some q.page.low) h.0 (run_below p.page.low q.page.low end run k)), tiled-updated_leaves s upper q qs end h.1 (run_from p.page.low q.page.low end run k))

  -- each run is one for its page
  abbrev pub AreRunsFor : List (Placed V) → List (List (List ℕ × Option V)) → Option (List ℕ) → Type 0
  AreRunsFor [] runs end = ⊤
  AreRunsFor (p ∷ ps) [] end = ⊤
  AreRunsFor (p ∷ ps) (run ∷ runs) end = IsRunFor p.page.low (next_low ps end) run × AreRunsFor ps runs end

  no_runs : (ps : List (Placed V)) (end : Option (List ℕ)) → AreRunsFor ps [] end
  no_runs [] end = tt
  no_runs (p ∷ ps) end = tt

  -- parents after their runs are tiled
  pub tiled-updated_parents : (s : Settings) (ps : List (Placed V)) (runs : List (List (List ℕ × Option V))) (end : Option (List ℕ)) → Tiled ps end → AreRunsFor ps runs end → Tiled (placed_of (updated_parents s ps runs)) end
  tiled-updated_parents s [] runs end h k = tt
  tiled-updated_parents s (p ∷ ps) [] end h k =
      let next : next_low (placed_of (updated_parents s ps [])) end ≡ next_low ps end = next_low-same (placed_of (updated_parents s ps [])) ps end (names-updated_parents s ps []) in
      (rw next h.0, tiled-updated_parents s ps [] end h.1 (no_runs ps end))
  tiled-updated_parents s (p ∷ ps) (run ∷ runs) end h k =
      let next : next_low (placed_of (updated_parents s ps runs)) end ≡ next_low ps end = next_low-same (placed_of (updated_parents s ps runs)) ps end (names-updated_parents s ps runs) in
      (rw next (tile-updated s p run (next_low ps end) h.0 k.0), tiled-updated_parents s ps runs end h.1 k.1)
