-- The outdated pids: on each level those of its groups, and those of the levels removed with the old root.
use Rattle.std.specs.Prelude.{◌≡◌, ℕ, ◌+◌, ◌⊎◌, ◌↔◌, true, List, [], ◌∷◌, ◌++◌, map, length}
use Rattle.std.proofs.Common.{sym, ◌∙◌, subst, append-nil, inl, inr}
use Rattle.std.specs.List.{Any}
use Rattle.keys.specs.declared.settings.Settings.{Settings}
use Rattle.keys.specs.declared.command.Command.{Command}
use Rattle.mapping.specs.Tree.{Tree}
use Rattle.mapping.specs.Levels.{Placed}
use Rattle.mapping.specs.FreshPids.{is_among}
use Rattle.mapping.proofs.PidLemmas.{among_either, among_left, among_right}
use Rattle.page_runs.specs.Updated.{Updated, is_thin}
use Rattle.split_plan.specs.Groups.{groups}
use Rattle.split_plan.specs.UpdatedLevel.{updated_parents}
use Rattle.split_plan.specs.Change.{Change, remade, family_changes, all_fresh, outdated, IsOutdatedIn, all_outdated}
use Rattle.split_plan.proofs.OutdatedLemmas.{outdated_members, outdated_of_families}
use Rattle.split_plan.specs.Terms.{terms}
use Rattle.climb_plan.specs.Climb.{families, climb}
use Rattle.climb_plan.specs.Plan.{batch_climb, shrunk_pids, outdated_pids}

-- ---- on each level those of its groups

module _ {V : Type 0} where
  -- the highest level is one group
  pub outdated_on_top : (s : Settings) (used : List ℕ) (i : ℕ) (ws : List (Updated V)) (pid : ℕ) → (is_among pid (climb s used i ws []).outdated ≡ true) ↔ IsOutdatedIn ws pid
  outdated_on_top s used i ws pid =
      let c : Change V = record { members = ws; pages = remade s used i ws } in
      let only : (climb s used i ws []).outdated ≡ outdated c = append-nil (outdated c ++ []) ∙ append-nil (outdated c) in
      let r = outdated_members c pid in
      (λ h. r.0 (subst (λ (ns : List ℕ). is_among pid ns ≡ true) only h), λ h. subst (λ (ns : List ℕ). is_among pid ns ≡ true) (sym only) (r.1 h))

  -- the outdated pids on the levels above a level
  abbrev outdated_above : Settings → List ℕ → ℕ → List (Updated V) → List (Placed ℕ) → List (List (Placed ℕ)) → List ℕ
  outdated_above s used i ws parents ups =
      let css : List (List (Change V)) = family_changes s used i (families parents ws) in
      (climb s used (i + length (all_fresh css)) (updated_parents s parents (map terms css)) ups).outdated

  pub outdated_below : (s : Settings) (used : List ℕ) (i : ℕ) (ws : List (Updated V)) (parents : List (Placed ℕ)) (ups : List (List (Placed ℕ))) (pid : ℕ)
      → (is_among pid (climb s used i ws (parents ∷ ups)).outdated ≡ true) ↔ (Any (λ f. Any (λ g. IsOutdatedIn g pid) (groups is_thin f)) (families parents ws) ⊎ (is_among pid (outdated_above s used i ws parents ups) ≡ true))
  outdated_below s used i ws parents ups pid =
      let here : List ℕ = all_outdated (family_changes s used i (families parents ws)) in
      let above : List ℕ = outdated_above s used i ws parents ups in
      let r = outdated_of_families s used i (families parents ws) pid in (
        λ h. elim (among_either pid here above h) [ inl a ↦ inl (r.0 a) | inr b ↦ inr b ],
        λ h. elim h [ inl a ↦ among_left pid here above (r.1 a) | inr b ↦ among_right pid here above b ],
      )

-- ---- of the whole plan

pub outdated_in_plan : {A : Type 0} (s : Settings) (t : Tree) (cs : List (Command A)) (pid : ℕ)
    → (is_among pid (outdated_pids s t cs) ≡ true) ↔ ((is_among pid (batch_climb s t cs).outdated ≡ true) ⊎ (is_among pid (shrunk_pids (batch_climb s t cs).tower.above) ≡ true))
outdated_in_plan s t cs pid =
    let here : List ℕ = (batch_climb s t cs).outdated in
    let root : List ℕ = shrunk_pids (batch_climb s t cs).tower.above in (
      λ h. among_either pid here root h,
      λ h. elim h [ inl a ↦ among_left pid here root a | inr b ↦ among_right pid here root b ],
    )
