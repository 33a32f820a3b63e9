-- The pids of a climb's levels are distinct.
use Rattle.std.specs.Prelude.{◌≡◌, ℕ, zero, suc, ◌+◌, Bool, true, false, cond, nat_lt, List, [], ◌∷◌, ◌++◌, map, flat_map, length}
use Rattle.std.proofs.Common.{refl, sym, ap, ◌∙◌, append-nil}
use Rattle.keys.specs.declared.settings.Settings.{Settings}
use Rattle.mapping.specs.Levels.{Placed, joined, names, pids, all_pids}
use Rattle.mapping.proofs.LevelLemmas.{same_pids}
use Rattle.mapping.specs.Proper.{Stacked}
use Rattle.split_plan.specs.Cut.{cut}
use Rattle.page_runs.specs.Updated.{Updated}
use Rattle.split_plan.specs.UpdatedLevel.{updated_parents, placed_of}
use Rattle.split_plan.proofs.RunLemmas.{names-updated_parents}
use Rattle.split_plan.specs.Change.{Change, fresh_pages, changes, family_changes, new_of, fresh_of, all_new, all_fresh}
use Rattle.split_plan.proofs.PidLemmas.{renewed-append, recast, renewed-fresh_pages, renewed-changes, renewed-family_changes}
use Rattle.split_plan.proofs.Renewed.{Renewed}
use Rattle.split_plan.proofs.Renewed.Renewed.{done}
use Rattle.split_plan.specs.Terms.{terms}
use Rattle.climb_plan.specs.Climb.{families, grown_levels, climb}
use Rattle.climb_plan.proofs.Families.{families-joined}

grown_by : {V : Type 0} (b : Bool) (enough : ℕ) (s : Settings) (used : List ℕ) (i : ℕ) (ps : List (Placed V)) → ((j : ℕ) (up : List (Placed ℕ)) → (k : ℕ) × Renewed used j k [] (flat_map pids (grown_levels enough s used j up)))
    → (k : ℕ) × Renewed used i k [] (flat_map pids (cond b (let up : List (Placed ℕ) = fresh_pages used i (cut s.fan (names ps)) in up ∷ grown_levels enough s used (i + length up) up) []))
grown_by false enough s used i ps ih = (i, done)
grown_by true enough s used i ps ih =
    let up : List (Placed ℕ) = fresh_pages used i (cut s.fan (names ps)) in
    let r = ih (i + length up) up in
    (r.0, renewed-append (renewed-fresh_pages used i (cut s.fan (names ps))) r.1)

renewed-grown_levels : {V : Type 0} (enough : ℕ) (s : Settings) (used : List ℕ) (i : ℕ) (ps : List (Placed V)) → (k : ℕ) × Renewed used i k [] (flat_map pids (grown_levels enough s used i ps))
renewed-grown_levels zero s used i ps = (i, done)
renewed-grown_levels (suc enough) s used i ps = grown_by (nat_lt 1 (length ps)) enough s used i ps (λ j up. renewed-grown_levels enough s used j up)

-- a climb's pids are those of the levels before, without some, and with fresh ones
pub renewed-climb : {V : Type 0} (s : Settings) (used : List ℕ) (i : ℕ) (ws : List (Updated V)) (olds : List (Placed V)) (ups : List (List (Placed ℕ))) → names (placed_of ws) ≡ names olds → Stacked olds ups
    → (k : ℕ) × Renewed used i k (all_pids olds ups) (all_pids (climb s used i ws ups).tower.level (climb s used i ws ups).tower.above)
renewed-climb {V} s used i ws olds [] e o =
    let css : List (List (Change V)) = changes s used i (ws ∷ []) ∷ [] in
    let top : List (Placed V) = all_new css in
    let j : ℕ = i + length (all_fresh css) in
    let g = renewed-grown_levels (length top) s used j top in
    let before : pids (placed_of (ws ++ [])) ≡ pids olds = ap (λ (vs : List (Updated V)). pids (placed_of vs)) (append-nil ws) ∙ same_pids (placed_of ws) olds e in
    let count : i + length (fresh_of (changes s used i (ws ∷ []))) ≡ j = ap (λ (ps : List (Placed V)). i + length ps) (sym (append-nil (fresh_of (changes s used i (ws ∷ []))))) in
    let after : pids (new_of (changes s used i (ws ∷ []))) ≡ pids top = ap (λ (ps : List (Placed V)). pids ps) (sym (append-nil (new_of (changes s used i (ws ∷ []))))) in
    (g.0, renewed-append (recast used count before after (renewed-changes s used i (ws ∷ []))) g.1)
renewed-climb {V} s used i ws olds (ps ∷ ups) e o =
    let linked : joined ps ≡ names (placed_of ws) = o.0.linked ∙ sym e in
    let css : List (List (Change V)) = family_changes s used i (families ps ws) in
    let vs : List (Updated ℕ) = updated_parents s ps (map terms css) in
    let upper = renewed-climb s used (i + length (all_fresh css)) vs ps ups (names-updated_parents s ps (map terms css)) o.1 in
    let before : pids (placed_of (Rattle.keys.specs.Lists.flat (families ps ws))) ≡ pids olds = ap (λ (xs : List (Updated V)). pids (placed_of xs)) (families-joined ps ws linked) ∙ same_pids (placed_of ws) olds e in
    (upper.0, renewed-append (recast used refl before refl (renewed-family_changes s used i (families ps ws))) upper.1)
