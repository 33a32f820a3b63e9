-- The effect of a batch on the levels, from the leaves up.
use Rattle.std.specs.Prelude.{ℕ, zero, suc, ◌+◌, Bool, false, nat_lt, nat_eq, List, [], ◌∷◌, ◌++◌, map, take, drop, length, if◌then◌else◌}
use Rattle.keys.specs.declared.settings.Settings.{Settings}
use Rattle.mapping.specs.Levels.{Placed, Tower, entries, names}
use Rattle.split_plan.specs.Cut.{cut}
use Rattle.page_runs.specs.Updated.{Updated}
use Rattle.split_plan.specs.UpdatedLevel.{updated_parents}
use Rattle.split_plan.specs.Change.{Change, fresh_pages, changes, family_changes, all_new, all_fresh, all_outdated}
use Rattle.split_plan.specs.Terms.{terms}

-- the children of each parent: as many as the parent has entries
abbrev pub families : {X : Type 0} → List (Placed ℕ) → List X → List (List X)
families [] xs = []
families (p ∷ ps) xs = take (length (entries p)) xs ∷ families ps (drop (length (entries p)) xs)

-- a level and the levels above it after a climb, and the outdated pids
pub record Climbed (V : Type 0) : Type 0 where
  pub tower : Tower V
  pub outdated : List ℕ

-- the levels above pages without a parent: their low keys and pids are split into index pages, until one page is left, where i fresh pids are already
-- allocated; the first number limits the number of levels
abbrev pub grown_levels : {V : Type 0} → ℕ → Settings → List ℕ → ℕ → List (Placed V) → List (List (Placed ℕ))
grown_levels zero s used i ps = []
grown_levels (suc enough) s used i ps =
    if nat_lt 1 (length ps)
    then (let up : List (Placed ℕ) = fresh_pages used i (cut s.fan (names ps)) in up ∷ grown_levels enough s used (i + length up) up)
    else []

-- the highest level: its page is a group by itself, and gets levels above it if it was split
abbrev pub climbed_top : {V : Type 0} → Settings → List ℕ → ℕ → List (Updated V) → Climbed V
climbed_top s used i ws =
    let css : List (List (Change _)) = changes s used i (ws ∷ []) ∷ [] in
    let top : List (Placed _) = all_new css in
    record { tower = record { level = top; above = grown_levels (length top) s used (i + length (all_fresh css)) top }; outdated = all_outdated css }

-- a level of pages after their runs, and the levels above it as they were: each family is grouped and rewritten, its parent gets the terms, and so on
-- upward
abbrev pub climb : {V : Type 0} → Settings → List ℕ → ℕ → List (Updated V) → List (List (Placed ℕ)) → Climbed V
climb s used i ws [] = climbed_top s used i ws
climb s used i ws (parents ∷ ups) =
    let css : List (List (Change _)) = family_changes s used i (families parents ws) in
    let up : Climbed ℕ = climb s used (i + length (all_fresh css)) (updated_parents s parents (map terms css)) ups in
    record { tower = record { level = all_new css; above = up.tower.level ∷ up.tower.above }; outdated = all_outdated css ++ up.outdated }

-- a level of pages after their runs, with the levels above it as they were, given that `from` of the unused numbers are already allocated
pub record LevelPlan (V : Type 0) : Type 0 where
  pub updated : List (Updated V)
  pub above : List (List (Placed ℕ))
  pub used : List ℕ
  pub from : ℕ

-- the same level with these parents directly above it
abbrev pub under : {V : Type 0} → List (Placed ℕ) → LevelPlan V → LevelPlan V
under ps l = record { updated = l.updated; above = ps ∷ l.above; used = l.used; from = l.from }

-- the same level without levels above it
abbrev pub alone : {V : Type 0} → LevelPlan V → LevelPlan V
alone l = record { updated = l.updated; above = []; used = l.used; from = l.from }

-- the level and those above it after the climb
abbrev pub climb_of : {V : Type 0} → Settings → LevelPlan V → Climbed V
climb_of s l = climb s l.used l.from l.updated l.above

-- whether a level is one page with one child
abbrev pub is_lone : List (Placed ℕ) → Bool
is_lone [] = false
is_lone (p ∷ []) = nat_eq (length (entries p)) 1
is_lone (p ∷ q ∷ ps) = false

-- a level under those that remain; the highest level does not remain if it is lone
abbrev pub kept_under : List (Placed ℕ) → List (List (Placed ℕ)) → List (List (Placed ℕ))
kept_under l [] = if is_lone l then [] else l ∷ []
kept_under l (up ∷ ups) = l ∷ up ∷ ups

-- the levels without those at the top that consist of one page with one child
abbrev pub kept_levels : List (List (Placed ℕ)) → List (List (Placed ℕ))
kept_levels [] = []
kept_levels (l ∷ ls) = kept_under l (kept_levels ls)
