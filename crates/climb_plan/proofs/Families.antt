-- The families of a level, and the runs that their parents get.
use Rattle.std.specs.Prelude.{◌≡◌, ℕ, ◌+◌, ◌<◌, List, [], ◌∷◌, ◌++◌, map, take, drop, length, Option, Some, None}
use Rattle.std.proofs.Common.{refl, sym, ap, ◌∙◌, subst, arith, length-append, length-drop, take-append-drop}
use Rattle.std.proofs.lemmas.List.{length-map}
use Rattle.keys.specs.declared.settings.Settings.{Settings}
use Rattle.delta_chain.specs.Layers.{with_run}
use Rattle.keys.specs.Lists.{flat}
use Rattle.mapping.specs.Levels.{Placed, entries, joined, name, names}
use Rattle.mapping.specs.Proper.{next_low, Tiled}
use Rattle.mapping.proofs.TileLemmas.{Separators, names-append, next_low-entries, next_low-parents}
use Rattle.split_plan.specs.Groups.{groups}
use Rattle.page_runs.specs.Updated.{Updated, updated, is_thin}
use Rattle.split_plan.specs.UpdatedLevel.{updated_parents, placed_of}
use Rattle.split_plan.proofs.RunLemmas.{entries-updated}
use Rattle.split_plan.proofs.WorkedLemmas.{AreRunsFor}
use Rattle.split_plan.specs.Change.{Change, changes, family_changes, new_of, fresh_of, all_new}
use Rattle.split_plan.proofs.ChangeLemmas.{next_low-groups, AllHeaded}
use Rattle.split_plan.specs.Terms.{terms}
use Rattle.split_plan.proofs.TermLemmas.{with_run-terms, terms_for_parent, names_apart, tiled_family_apart, headed_by_names}
use Rattle.climb_plan.specs.Climb.{families}

module _ {X : Type 0} where
  none_left : (xs : List X) → length xs ≡ 0 → [] ≡ xs
  none_left [] h = refl
  none_left (x ∷ xs) h = absurd (omega arith)

  pub families_by_length : (ps : List (Placed ℕ)) (xs : List X) → length (joined ps) ≡ length xs → flat (families ps xs) ≡ xs
  families_by_length [] xs h = none_left xs (sym h)
  families_by_length (p ∷ ps) xs h =
      let n : ℕ = length (entries p) in
      let a : length (joined ps) ≡ length (drop n xs) = omega (arith, length-append (entries p) (joined ps), length-drop n xs) in
      ap (λ (rest : List X). take n xs ++ rest) (families_by_length ps (drop n xs) a) ∙ take-append-drop n xs

module _ {V : Type 0} where
  -- the families, concatenated, are the level that their parents' entries describe
  pub families-joined : (ps : List (Placed ℕ)) (ws : List (Updated V)) → joined ps ≡ names (placed_of ws) → flat (families ps ws) ≡ ws
  families-joined ps ws l =
      families_by_length ps ws (ap (λ (ns : Separators). length ns) l ∙ length-map (placed_of ws) name ∙ length-map ws (λ (w : Updated V). w.placed))

  -- a parent's entries, after its terms, describe the pages that are made of its family
  entries_after : (s : Settings) (used : List ℕ) (i : ℕ) (p : Placed ℕ) (f : List (Updated V)) (end : Option (List ℕ)) → 0 < s.fan → entries p ≡ names (placed_of f) → Tiled (placed_of f) end → entries (updated s p (terms (changes s used i (groups is_thin f)))).placed ≡ names (new_of (changes s used i (groups is_thin f)))
  entries_after s used i p f end z e h =
      let run : List (List ℕ × Option ℕ) = terms (changes s used i (groups is_thin f)) in
      entries-updated s p run ∙ ap (λ (ns : Separators). with_run ns run) e ∙ with_run-terms s used i f end z h

  -- and so do the entries of all parents of a level
  pub parents_link : (s : Settings) (used : List ℕ) (i : ℕ) (ps : List (Placed ℕ)) (ws : List (Updated V)) (end : Option (List ℕ)) → 0 < s.fan → joined ps ≡ names (placed_of ws) → Tiled (placed_of ws) end
      → joined (placed_of (updated_parents s ps (map terms (family_changes s used i (families ps ws))))) ≡ names (all_new (family_changes s used i (families ps ws)))
  parents_link s used i [] ws end z l h = refl
  parents_link s used i (p ∷ ps) ws end z l h =
      let n : ℕ = length (entries p) in
      let f : List (Updated V) = take n ws in
      let more : List (Updated V) = drop n ws in
      let r = names_apart (entries p) (joined ps) ws l in
      let a = tiled_family_apart n ws end h in
      let cs : List (Change V) = changes s used i (groups is_thin f) in
      let later : List (List (Change V)) = family_changes s used (i + length (fresh_of cs)) (families ps more) in
      ap (λ (ns : Separators). ns ++ joined (placed_of (updated_parents s ps (map terms later)))) (entries_after s used i p f (next_low (placed_of more) end) z r.0 a.0)
      ∙ ap (λ (ns : Separators). names (new_of cs) ++ ns) (parents_link s used (i + length (fresh_of cs)) ps more end z r.1 a.1)
      ∙ sym (names-append (new_of cs) (all_new later))

  -- the terms are runs for the parents, which keep their first child at their low key
  pub parents_termed : (s : Settings) (used : List ℕ) (i : ℕ) (ps : List (Placed ℕ)) (ws : List (Updated V)) → 0 < s.fan → joined ps ≡ names (placed_of ws) → AllHeaded ps → Tiled (placed_of ws) None
      → AreRunsFor ps (map terms (family_changes s used i (families ps ws))) None × AllHeaded (placed_of (updated_parents s ps (map terms (family_changes s used i (families ps ws)))))
  parents_termed s used i [] ws z l hd h = (tt, tt)
  parents_termed s used i (p ∷ ps) ws z l hd h =
      let n : ℕ = length (entries p) in
      let f : List (Updated V) = take n ws in
      let more : List (Updated V) = drop n ws in
      let r = names_apart (entries p) (joined ps) ws l in
      let a = tiled_family_apart n ws None h in
      let gs : List (List (Updated V)) = groups is_thin f in
      let cs : List (Change V) = changes s used i gs in
      let end : Option (List ℕ) = next_low ps None in
      let same_end : next_low (placed_of more) None ≡ end = next_low-parents ps (placed_of more) r.1 hd.1 in
      let tiled : Tiled (placed_of f) end = subst (λ (e : Option (List ℕ)). Tiled (placed_of f) e) same_end a.0 in
      let begins : (e : Option (List ℕ)) → next_low (placed_of f) e ≡ Some p.page.low = λ e. next_low-entries (placed_of f) (entries p) p.page.low e r.0 hd.0.some hd.0.first in
      let new_begins : next_low (new_of cs) None ≡ Some p.page.low =
      next_low-groups s used i f None ∙ begins None in
      let after : entries (updated s p (terms cs)).placed ≡ names (new_of cs) = entries_after s used i p f end z r.0 tiled in
      let later = parents_termed s used (i + length (fresh_of cs)) ps more z r.1 hd.1 a.1 in
      ((terms_for_parent s used i p.page.low f end z (begins end) tiled, later.0), (headed_by_names (updated s p (terms cs)).placed (new_of cs) p.page.low after new_begins refl, later.1))
