-- New pages have the unused numbers, in order.
use Rattle.std.specs.Prelude.{◌≡◌, ℕ, zero, suc, ◌+◌, ◌<◌, true, not, List, [], ◌∷◌, ◌++◌, map, flat_map, length}
use Rattle.std.proofs.Common.{refl, sym, ap, ◌∙◌, arith, append_assoc}
use Rattle.std.specs.List.{AllByRecursion, filter, range_with_len}
use Rattle.std.specs.Map.{keys_of}
use Rattle.std.proofs.lemmas.List.Elements.{filter-append}
use Rattle.std.proofs.lemmas.Grind.{flat_map-append}
use Rattle.keys.specs.declared.settings.Settings.{Settings}
use Rattle.keys.specs.declared.command.Command.{Command}
use Rattle.mapping.specs.Tree.{Tree}
use Rattle.mapping.specs.Levels.{Placed, Levels, pids, all_pids, levels_of, contents}
use Rattle.mapping.specs.FreshPids.{is_among, unused}
use Rattle.mapping.specs.Proper.{AreRisingPids, IsProper}
use Rattle.mapping.proofs.PidLemmas.{all_among, unused-is_free}
use Rattle.mapping.proofs.TableLemmas.{all_pids_hold}
use Rattle.page_runs.specs.NetRun.{net_run}
use Rattle.split_plan.specs.UpdatedLevel.{updated_leaves}
use Rattle.split_plan.proofs.RunLemmas.{names-updated_leaves}
use Rattle.split_plan.proofs.Renewed.{Renewed}
use Rattle.split_plan.proofs.Renewed.Renewed.{done, keep, drop_one, draw}
use Rattle.climb_plan.specs.Climb.{kept_levels}
use Rattle.climb_plan.specs.Plan.{batch_climb, planned_levels, planned_tree}
use Rattle.climb_plan.proofs.Kept.{kept_is_first}
use Rattle.climb_plan.proofs.Pids.{renewed-climb}
use Rattle.climb_plan.proofs.Planned.{levels_of_planned}

-- those of the numbers that are not in use
abbrev free : List ℕ → List ℕ → List ℕ
free used ns = filter (λ n. not (is_among n used)) ns

-- a number of unused numbers, from place i on
abbrev next_unused : List ℕ → ℕ → ℕ → List ℕ
next_unused used i n = map (unused used) (range_with_len i n)

-- of the pids that are retained, left out and allocated, the allocated ones are the free ones
drawn_in_order : {used : List ℕ} {i j : ℕ} {b a : List ℕ} → Renewed used i j b a → AreRisingPids used → AllByRecursion (λ n. is_among n used ≡ true) b → (n : ℕ) × (free used a ≡ next_unused used i n)
drawn_in_order (done) r h = (zero, refl)
drawn_in_order {used} (keep {after = a} n m) r h = let rest = drawn_in_order m r h.1 in (rest.0, rw h.0 rest.1)
drawn_in_order (drop_one n m) r h = drawn_in_order m r h.1
drawn_in_order {used} (draw {i = i} {after = a} m) r h =
    let rest = drawn_in_order m r h in
    let next : suc i ≡ i + 1 = omega arith in
    (suc rest.0, rw (unused-is_free used i r) (ap (λ (ns : List ℕ). unused used i ∷ ns) (rest.1 ∙ ap (λ (k : ℕ). next_unused used k rest.0) next)))

-- the first of them are the first unused numbers
first_in_order : (used : List ℕ) (xs ys : List ℕ) (i n : ℕ) → xs ++ ys ≡ next_unused used i n → xs ≡ next_unused used i (length xs)
first_in_order used [] ys i n e = refl
first_in_order used (x ∷ xs) ys i zero e = absurd (cc)
first_in_order used (x ∷ xs) ys i (suc n) e =
    let here : x ≡ unused used i = cc in
    let rest : xs ++ ys ≡ next_unused used (i + 1) n = cc in
    let later = first_in_order used xs ys (i + 1) n rest in
    cc

module _ {A : Type 0} (s : Settings) (t : Tree) (cs : List (Command A)) (proper : IsProper s t) where
  -- the new pages of the levels after the commands have the unused numbers, from the lowest level up
  new_pids_in_order : (n : ℕ) × (free (keys_of t.pages) (all_pids (planned_levels s t cs).level (planned_levels s t cs).above) ≡ next_unused (keys_of t.pages) 0 n)
  new_pids_in_order =
      let used : List ℕ = keys_of t.pages in
      let l : Levels = levels_of t in
      let run : List (List ℕ × _) = net_run (contents t) cs in
      let level : List (Placed (List ℕ)) = (batch_climb s t cs).tower.level in
      let ups : List (List (Placed ℕ)) = (batch_climb s t cs).tower.above in
      let in_use : AllByRecursion (λ n. is_among n used ≡ true) (all_pids l.level l.above) = all_pids_hold (λ n. is_among n used ≡ true) t.pages (all_among used) l proper.held in
      let renewed = renewed-climb s used 0 (updated_leaves s run l.level) l.level l.above (names-updated_leaves s run l.level) proper.levels.stacked in
      let drawn = drawn_in_order renewed.1 proper.tree.rising in_use in
      let rest = kept_is_first ups in
      let first : List ℕ = all_pids level (kept_levels ups) in
      let apart : all_pids level ups ≡ first ++ flat_map pids rest.0 =
      ap (λ (x : List (List (Placed ℕ))). pids level ++ flat_map pids x) (sym rest.1)
      ∙ ap (λ (ns : List ℕ). pids level ++ ns) (flat_map-append pids (kept_levels ups) rest.0)
      ∙ sym (append_assoc (pids level) (flat_map pids (kept_levels ups)) (flat_map pids rest.0)) in
      let both : free used first ++ free used (flat_map pids rest.0) ≡ next_unused used 0 drawn.0 =
      sym (filter-append (λ n. not (is_among n used)) first (flat_map pids rest.0)) ∙ ap (λ (ns : List ℕ). free used ns) (sym apart) ∙ drawn.1 in
      (length (free used first), first_in_order used (free used first) (free used (flat_map pids rest.0)) 0 drawn.0 both)

  pub numbered_in_order : 1 < s.fan → (n : ℕ) × (free (keys_of t.pages) (all_pids (levels_of (planned_tree s t cs)).level (levels_of (planned_tree s t cs)).above) ≡ next_unused (keys_of t.pages) 0 n)
  numbered_in_order fan =
      let r = new_pids_in_order in
      (r.0, ap (λ (l : Levels). free (keys_of t.pages) (all_pids l.level l.above)) (levels_of_planned s t cs fan proper) ∙ r.1)
