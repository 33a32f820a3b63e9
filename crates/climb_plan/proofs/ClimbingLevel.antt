-- A level under parents has climbed after the levels above it have, and after it is installed.
use Rattle.std.specs.Prelude.{◌≡◌, ℕ, suc, ◌+◌, true, List, [], ◌∷◌, ◌++◌, map, flat_map, length}
use Rattle.std.proofs.Common.{refl, sym, ap, ◌∙◌, arith}
use Rattle.std.specs.List.{AllByRecursion}
use Rattle.keys.specs.Lists.{flat}
use Rattle.keys.specs.declared.settings.Settings.{Settings}
use Rattle.index_page.specs.Page.{Page, PageOfKind}
use Rattle.index_page.specs.Page.PageOfKind.{Index}
use Rattle.mapping.specs.Levels.{Placed, pids, all_pids}
use Rattle.mapping.specs.FreshPids.{is_among, IsNeverUnused}
use Rattle.mapping.specs.Outdate.{outdate_all}
use Rattle.mapping.specs.Proper.{Distinct, Stacked}
use Rattle.mapping.specs.Table.{place_of}
use Rattle.mapping.specs.Tree.{Logged}
use Rattle.mapping.specs.TreeInMemory.{TreeInMemory}
use Rattle.mapping.proofs.LevelLemmas.{same_pids}
use Rattle.mapping.proofs.PidLemmas.{among_apart}
use Rattle.page_runs.specs.Updated.{Updated}
use Rattle.split_plan.specs.UpdatedLevel.{placed_of, updated_parents}
use Rattle.split_plan.specs.Change.{Change, family_changes, all_new, all_fresh, all_outdated}
use Rattle.split_plan.specs.Terms.{terms}
use Rattle.split_plan.proofs.PidLemmas.{distinct_renewed, recast, renewed-append, renewed-family_changes}
use Rattle.split_plan.proofs.Renewed.{Renewed}
use Rattle.split_plan.proofs.Renewed.Renewed.{done, keep}
use Rattle.split_plan.proofs.RunLemmas.{names-updated_parents}
use Rattle.climb_plan.specs.Climb.{Climbed, LevelPlan, climb, families}
use Rattle.climb_plan.specs.HasClimbed.{HasClimbed}
use Rattle.climb_plan.proofs.ChangingOutdated.{updated_pids-placed, outdate-joined}
use Rattle.climb_plan.proofs.InstalledPages.{AreApart, turned, distinct_apart}
use Rattle.climb_plan.proofs.Pids.{renewed-climb}
use Rattle.climb_plan.proofs.Climbing.{IsMadeReady, IsLevelInstalled, fresh_is_new, above_stay, gone_joined, others_joined}
use Rattle.climb_plan.proofs.Installed.{updated_pids}
use Rattle.climb_plan.proofs.LevelParts.{level_of}

-- ---- distinct pids

all_stay : (used : List ℕ) (i : ℕ) (ns : List ℕ) → Renewed used i i ns ns
all_stay used i [] = done
all_stay used i (n ∷ ns) = keep n (all_stay used i ns)

-- the pids of levels above, before and after, are distinct from pids in use below
apart_from_level : {used : List ℕ} {i j : ℕ} {olds news : List ℕ} (ns : List ℕ) → Renewed used i j olds news → AllByRecursion (IsNeverUnused used) (ns ++ olds) → Distinct (ns ++ olds) → AreApart news ns
apart_from_level {used} {i} {j} {olds} {news} ns r h d =
    turned ns news (distinct_apart ns news (distinct_renewed (renewed-append (all_stay used i ns) r) h d)).0

-- and from those that are renewed below
apart_from_new : {used : List ℕ} {i j k : ℕ} {ns ms olds news : List ℕ} → Renewed used i j ns ms → Renewed used j k olds news → AllByRecursion (IsNeverUnused used) (ns ++ olds) → Distinct (ns ++ olds) → AreApart news ms
apart_from_new {used} {i} {j} {k} {ns} {ms} {olds} {news} q r h d =
    turned ms news (distinct_apart ms news (distinct_renewed (renewed-append q r) h d)).0

-- ---- one level more

module _ {V : Type 0} (s : Settings) (used : List ℕ) (i : ℕ) (ps : List (Placed ℕ)) (ws : List (Updated V)) (ups : List (List (Placed ℕ))) where
  -- the new pages of the level, its parents after their runs, and the climb of the levels from them on upward
  abbrev pub made_here : List (List (Change V))
  made_here = family_changes s used i (families ps ws)

  abbrev pub parents_here : List (Updated ℕ)
  parents_here = updated_parents s ps (map terms made_here)

  abbrev pub climbed_above : Climbed ℕ
  climbed_above = climb s used (i + length (all_fresh made_here)) parents_here ups

  -- and the plan of the parents' level
  abbrev pub plan_above : LevelPlan ℕ
  plan_above = level_of parents_here ups used (i + length (all_fresh made_here))

  abbrev upper : List (List (Placed ℕ))
  upper = climbed_above.tower.level ∷ climbed_above.tower.above

  -- parents keep their pids
  pub parent_pids : pids (placed_of parents_here) ≡ pids ps
  parent_pids = same_pids (placed_of parents_here) ps (names-updated_parents s ps (map terms made_here))

  module _ (flat_is : flat (families ps ws) ≡ ws) (stacked : Stacked ps ups) (never : AllByRecursion (IsNeverUnused used) (all_pids (placed_of ws) (ps ∷ ups))) (distinct : Distinct (all_pids (placed_of ws) (ps ∷ ups))) where
    abbrev renewed_above : (k : ℕ) × Renewed used (i + length (all_fresh made_here)) k (all_pids ps ups) (flat_map pids upper)
    renewed_above = renewed-climb s used (i + length (all_fresh made_here)) parents_here ps ups (names-updated_parents s ps (map terms made_here)) stacked

    abbrev renewed_here : Renewed used i (i + length (all_fresh made_here)) (pids (placed_of ws)) (pids (all_new made_here))
    renewed_here = recast used refl (ap (λ (vs : List (Updated V)). pids (placed_of vs)) flat_is) refl (renewed-family_changes s used i (families ps ws))

    upper_apart : AreApart (flat_map pids upper) (updated_pids ws)
    upper_apart = λ n e. ap (λ (ns : List ℕ). is_among n ns) (updated_pids-placed ws) ∙ apart_from_level (pids (placed_of ws)) renewed_above.1 never distinct n e

    upper_new : AreApart (flat_map pids upper) (pids (all_new made_here))
    upper_new = apart_from_new renewed_here renewed_above.1 never distinct

    -- ---- the assumptions of a level's climb hold for the levels above it, too

    abbrev apart_parts : AreApart (pids (placed_of ws)) (all_pids ps ups) × Distinct (all_pids ps ups)
    apart_parts = distinct_apart (pids (placed_of ws)) (all_pids ps ups) distinct

    abbrev upper_pids : all_pids (placed_of parents_here) ups ≡ all_pids ps ups
    upper_pids = ap (λ (ns : List ℕ). ns ++ flat_map pids ups) parent_pids

    -- ---- the levels above don't touch a level

    own_apart : AreApart (updated_pids ws) (all_pids (placed_of parents_here) ups)
    own_apart n e = ap (λ (ns : List ℕ). is_among n ns) upper_pids ∙ apart_parts.0 n (ap (λ (ns : List ℕ). is_among n ns) (sym (updated_pids-placed ws)) ∙ e)

    new_apart : AreApart (pids (all_new made_here)) (all_pids (placed_of parents_here) ups)
    new_apart n e =
        let olds : List ℕ = all_pids ps ups in
        let d : Distinct (pids (all_new made_here) ++ olds) = distinct_renewed (renewed-append renewed_here (all_stay used (i + length (all_fresh made_here)) olds)) never distinct in
        ap (λ (ns : List ℕ). is_among n ns) upper_pids ∙ (distinct_apart (pids (all_new made_here)) olds d).0 n e

    -- its pages have the places that they had, in the table or checked out
    pub level_untouched : (ready above : TreeInMemory) → HasClimbed Index ready above plan_above climbed_above → (n : ℕ) → is_among n (updated_pids ws) ≡ true → place_of above.table n ≡ place_of ready.table n
    level_untouched ready above c n e = c.others n (own_apart n e) (turned (flat_map pids upper) (updated_pids ws) upper_apart n e)

    -- and so have its fresh pids
    pub fresh_untouched : (ready above : TreeInMemory) → HasClimbed Index ready above plan_above climbed_above → (n : ℕ) → is_among n (pids (all_fresh made_here)) ≡ true → place_of above.table n ≡ place_of ready.table n
    fresh_untouched ready above c n e =
        let new : is_among n (pids (all_new made_here)) ≡ true = fresh_is_new n made_here e in
        c.others n (new_apart n new) (turned (flat_map pids upper) (pids (all_new made_here)) upper_new n new)

    -- ---- it has climbed

    -- a level under parents has climbed after those above it have, and it is installed
    pub level-climbed : (of : Page V → PageOfKind) (start ready above after : TreeInMemory) → IsMadeReady start ready ws (all_fresh made_here) (pids ps) → HasClimbed Index ready above plan_above climbed_above
        → IsLevelInstalled of above after ws made_here → after.root ≡ above.root → after.height ≡ above.height → HasClimbed of start after (level_of ws (ps ∷ ups) used i) (climb s used i ws (ps ∷ ups))
    level-climbed of start ready above after r c l e h =
        let olds : List ℕ = all_pids ps ups in
        let same : (n : ℕ) → is_among n (all_pids (placed_of parents_here) ups) ≡ is_among n olds = λ n. ap (λ (ns : List ℕ). is_among n (ns ++ flat_map pids ups)) parent_pids in
        let outdated : outdate_all (all_outdated made_here) above.table.logged ≡ outdate_all (all_outdated made_here) (outdate_all climbed_above.outdated start.table.logged) =
        ap (λ (ls : List (ℕ × Logged)). outdate_all (all_outdated made_here) ls) (c.logged ∙ ap (λ (ls : List (ℕ × Logged)). outdate_all climbed_above.outdated ls) r.logged) in
        record {
          level = l.level.home;
          above = above_stay of start.table above.table after.table ws made_here olds upper l.level upper_apart upper_new (c.level, c.above);
          gone = gone_joined of start.table above.table after.table ws made_here olds upper l.level (λ n a b. c.gone n (same n ∙ a) b);
          others = others_joined of start.table above.table after.table ws made_here olds upper l.level (λ n p q a b. c.others n (same n ∙ a) b ∙ r.others n p q (among_apart n (pids ps) (flat_map pids ups) a).0);
          rising = l.rising;
          logged = l.logged ∙ outdated ∙ outdate-joined (all_outdated made_here) climbed_above.outdated start.table.logged;
          root = e ∙ c.root;
          height = heights after.height above.height ready.height start.height (length ups) (length climbed_above.tower.above) h c.height r.height;
        }
      where
        heights : (t3 t2 t1 t0 m n : ℕ) → t3 ≡ t2 → t2 + m ≡ t1 + n → t1 ≡ t0 → t3 + suc m ≡ t0 + suc n
        heights t3 t2 t1 t0 m n e f g = omega arith
