-- The highest level of a climb after levels were added above it: its page can be put back, its group can be replaced, and it has climbed.
use Rattle.std.specs.Prelude.{◌≡◌, ℕ, ◌+◌, ◌<◌, true, false, List, [], ◌∷◌, ◌++◌, map, flat_map, length, Some, None, IsSome}
use Rattle.std.proofs.Common.{sym, ap, ◌∙◌, subst, arith, append-nil}
use Rattle.std.specs.List.{filter, AllByRecursion, range_with_len}
use Rattle.keys.specs.Lists.{flat}
use Rattle.keys.specs.declared.settings.Settings.{Settings}
use Rattle.keys.proofs.Basics.{or_turned}
use Rattle.index_page.specs.Page.{Page, PageOfKind}
use Rattle.index_page.proofs.ListLemmas.{all_apart}
use Rattle.mapping.specs.Levels.{Placed, pids}
use Rattle.mapping.specs.FreshPids.{is_among, IsNeverUnused}
use Rattle.mapping.specs.Outdate.{outdate_all}
use Rattle.mapping.specs.Proper.{Distinct, AreRisingPids}
use Rattle.mapping.specs.Table.{Mapping, pids_in_use, place_of, page_of, with_rooms, fresh_pids}
use Rattle.mapping.specs.Tree.{Logged}
use Rattle.mapping.specs.TreeInMemory.{TreeInMemory}
use Rattle.mapping.proofs.PidLemmas.{all_among}
use Rattle.page_runs.specs.Updated.{Updated}
use Rattle.split_plan.specs.Change.{Change, is_rewritten, changes, fresh_of, all_new, all_fresh, all_outdated}
use Rattle.split_plan.specs.UpdatedLevel.{placed_of}
use Rattle.climb_plan.specs.Changing.{SeenPage, AreHome}
use Rattle.climb_plan.specs.Climb.{LevelPlan, alone, climb, climb_of}
use Rattle.climb_plan.specs.HasClimbed.{HasClimbed}
use Rattle.climb_plan.specs.Installing.{AreAway, all_come_home, all_installed, CanInstallAll}
use Rattle.climb_plan.specs.Level.{IsKind, IsLevel, remade_of, IsTopChanged}
use Rattle.climb_plan.specs.LevelSteps.{SomeLevel, TopChangesFrom, ClimbsFrom, IsTooHighFrom}
use Rattle.climb_plan.specs.Rewriting.{Remade}
use Rattle.climb_plan.proofs.BridgeDrawn.{drawn_places}
use Rattle.climb_plan.proofs.BridgeGroups.{top_in_order}
use Rattle.climb_plan.proofs.BridgeTables.{AreDrawn, drawn_others}
use Rattle.climb_plan.proofs.ChangedRooms.{shifted}
use Rattle.climb_plan.proofs.ChangingGroups.{fresh_on_top}
use Rattle.climb_plan.proofs.ChangingOutdated.{updated_pids-placed, among-joined, outdated-top, outdate-joined, outdate-same}
use Rattle.climb_plan.proofs.ChangingSeen.{seen_replaced}
use Rattle.climb_plan.proofs.Climbing.{IsMadeReady, has_level_from}
use Rattle.climb_plan.proofs.ClimbingTop.{made_on_top, grown_above, own_not_grown, fresh_not_grown, top-climbed}
use Rattle.climb_plan.proofs.InstalledLevel.{HasLevel, installed-top}
use Rattle.climb_plan.proofs.InstalledPages.{AreFreshFor, at_among}
use Rattle.climb_plan.proofs.Installing.{distinct_first}
use Rattle.climb_plan.proofs.InstallingLemmas.{others-all_come_home, rising-all_come_home, logged-all_come_home}
use Rattle.climb_plan.proofs.ThroughGroups.{fresh_numbers, groups_can_be_installed, groups_installed, groups_rising, groups_logged}
use Rattle.climb_plan.proofs.ThroughLevel.{seen_pids, seen_distinct, seen_away, not_seen, home_back, pages_home, never_given, all_each}
use Rattle.climb_plan.proofs.Installed.{IsInstalled, updated_pids, replaced_among}
use Rattle.climb_plan.proofs.LevelParts.{level_of}

module _ {V : Type 0} (s : Settings) (of : Page V → PageOfKind) (t u : TreeInMemory) (xs : List SeenPage) (ws : List (Updated V)) (used : List ℕ) (i : ℕ) (h : IsLevel of t xs (level_of ws [] used i))
    (given : List Remade) (pid levels : ℕ) (c : IsTopChanged s of t u (level_of ws [] used i) given pid levels) where
  -- the group, if there is one, and the plan of the level
  abbrev group_here : List (List (Updated V))
  group_here = filter is_rewritten (ws ∷ [])

  abbrev changes_here : List (Change V)
  changes_here = changes s used i group_here

  abbrev all_here : List (List (Change V))
  all_here = made_on_top s used i ws

  abbrev above_here : List (List (Placed ℕ))
  above_here = grown_above s used i ws

  abbrev count_here : ℕ
  count_here = length (fresh_of changes_here)

  abbrev rooms_here : Mapping PageOfKind
  rooms_here = with_rooms t.table (fresh_pids (pids_in_use t.table) count_here)

  drawn_here : AreDrawn t.table rooms_here count_here
  drawn_here = drawn_places count_here t.table h.rising

  same_fresh : all_fresh all_here ≡ fresh_of changes_here
  same_fresh = fresh_on_top s used i ws

  own_pids : pids (placed_of ws) ≡ updated_pids ws
  own_pids = sym (updated_pids-placed ws)

  level_never : AllByRecursion (IsNeverUnused used) (updated_pids ws)
  level_never = subst (λ (ns : List ℕ). AllByRecursion (IsNeverUnused used) ns) own_pids (all_apart (IsNeverUnused used) (pids (placed_of ws)) [] h.old).0

  level_distinct : Distinct (updated_pids ws)
  level_distinct = subst (λ (ns : List ℕ). Distinct ns) own_pids (distinct_first (pids (placed_of ws)) [] h.distinct)

  given_here : fresh_pids (pids_in_use t.table) count_here ≡ pids (fresh_of changes_here)
  given_here =
      let e : i ≡ i + 0 = omega arith in
      shifted used (pids_in_use t.table) i 0 i count_here e h.drawn ∙ sym (fresh_numbers s used i group_here)

  level_fresh : AreFreshFor ws (fresh_of changes_here)
  level_fresh =
      subst (λ (ks : List ℕ). AllByRecursion (λ k. is_among k (updated_pids ws) ≡ false) ks) (sym (fresh_numbers s used i group_here)) (never_given used (updated_pids ws) (range_with_len i count_here) level_never)

  -- ---- what changed before

  made_ready : IsMadeReady t u ws (all_fresh all_here) (flat_map pids above_here)
  made_ready = record {
    others = λ n a b d. c.grown.others n d ∙ drawn_here.others n (ap (λ (ns : List ℕ). is_among n ns) (given_here ∙ ap (λ (qs : List (Placed V)). pids qs) (sym same_fresh)) ∙ b);
    logged = c.grown.logged ∙ drawn_here.logged;
    height = c.grown.height;
  }

  places_stay : AllByRecursion (λ k. place_of u.table k ≡ place_of t.table k) (updated_pids ws)
  places_stay =
      all_each (λ k. is_among k (updated_pids ws) ≡ true) (λ k. place_of u.table k ≡ place_of t.table k) (updated_pids ws)
      (λ k e. c.grown.others k (own_not_grown s used i ws h.stacked h.old k e) ∙ drawn_others t.table rooms_here count_here used i k drawn_here h.drawn (at_among (IsNeverUnused used) k (updated_pids ws) level_never e))
      (all_among (updated_pids ws))

  -- the page that was seen is checked out
  pub top_away : AreAway u.table (seen_pids xs)
  top_away = (seen_away of t.table u.table h.seen places_stay, seen_distinct of t.table h.seen level_distinct)

  -- ---- it is put back

  abbrev pub top_home : Mapping PageOfKind
  top_home = all_come_home u.table xs

  level_home : AreHome of top_home (placed_of ws)
  level_home = home_back of t.table u.table h.seen places_stay level_distinct

  home_rising : AreRisingPids (pids_in_use top_home)
  home_rising = rising-all_come_home u.table xs c.grown.rising

  home_others : (n : ℕ) → is_among n (updated_pids ws) ≡ false → place_of top_home n ≡ place_of u.table n
  home_others n e = others-all_come_home n u.table xs (not_seen of t.table n h.seen e)

  fresh_stays : (k : ℕ) → is_among k (pids (fresh_of changes_here)) ≡ true → place_of u.table k ≡ Some None
  fresh_stays k e =
      c.grown.others k (fresh_not_grown s used i ws h.stacked h.old k (ap (λ (qs : List (Placed V)). is_among k (pids qs)) same_fresh ∙ e))
      ∙ drawn_here.away k (ap (λ (ns : List ℕ). is_among k ns) given_here ∙ e)

  fresh_home : AllByRecursion (λ k. place_of top_home k ≡ Some None) (pids (fresh_of changes_here))
  fresh_home =
      let ks : List ℕ = pids (fresh_of changes_here) in
      all_each (λ k. is_among k ks ≡ true) (λ k. place_of top_home k ≡ Some None) ks
      (λ k e. home_others k (at_among (λ n. is_among n (updated_pids ws) ≡ false) k ks level_fresh e) ∙ fresh_stays k e)
      (all_among ks)

  -- ---- the group is replaced

  only_group : flat (ws ∷ []) ≡ ws
  only_group = append-nil ws

  group_never : AllByRecursion (IsNeverUnused used) (updated_pids (flat (ws ∷ [])))
  group_never = subst (λ (vs : List (Updated V)). AllByRecursion (IsNeverUnused used) (updated_pids vs)) (sym only_group) level_never

  group_distinct : Distinct (updated_pids (flat (ws ∷ [])))
  group_distinct = subst (λ (vs : List (Updated V)). Distinct (updated_pids vs)) (sym only_group) level_distinct

  abbrev remade_here : List Remade
  remade_here = map (remade_of of) changes_here

  can_install : IsKind of → CanInstallAll top_home remade_here
  can_install kind =
      let home : AreHome of top_home (placed_of (flat (ws ∷ []))) = subst (λ (vs : List (Updated V)). AreHome of top_home (placed_of vs)) (sym only_group) level_home in
      let members : AllByRecursion (λ k. IsSome (page_of top_home k)) (updated_pids (flat (ws ∷ []))) =
      subst (λ (vs : List (Updated V)). AllByRecursion (λ k. IsSome (page_of top_home k)) (updated_pids vs)) (sym only_group) (pages_home of top_home ws level_home) in
      groups_can_be_installed s used of top_home i (ws ∷ []) home_rising group_never group_distinct kind (top_in_order ws None h.tiled) home members fresh_home

  -- the group can be replaced, if it is one
  pub top_installs : IsKind of → (home : TreeInMemory) → home ≡ record u { table = top_home } → CanInstallAll home.table given
  top_installs kind home q =
      subst (λ (v : TreeInMemory). CanInstallAll v.table given) (sym q) (subst (λ (rs : List Remade). CanInstallAll top_home rs) (sym c.groups) (can_install kind))

  -- ---- and the level has climbed

  abbrev table_after : Mapping PageOfKind
  table_after = all_installed top_home remade_here

  abbrev tree_after : TreeInMemory
  tree_after = record { table = table_after; root = pid; height = levels }

  after_logged : table_after.logged ≡ outdate_all (all_outdated all_here) u.table.logged
  after_logged =
      let rewritten : List ℕ = updated_pids (flat group_here) in
      let replaced : List ℕ = updated_pids (replaced_among ws) in
      groups_logged s used of top_home i (ws ∷ []) home_rising group_never group_distinct
      ∙ ap (λ (ls : List (ℕ × Logged)). outdate_all rewritten ls) (logged-all_come_home u.table xs ∙ ap (λ (ns : List ℕ). outdate_all ns u.table.logged) (sym (seen_replaced of t.table h.seen)))
      ∙ outdate-joined rewritten replaced u.table.logged
      ∙ outdate-same (rewritten ++ replaced) (all_outdated all_here) u.table.logged (λ n. among-joined n rewritten replaced ∙ or_turned (is_among n rewritten) (is_among n replaced) ∙ sym (outdated-top s used i ws n))

  after_level : HasLevel of u.table table_after ws (all_new all_here) (all_fresh all_here)
  after_level =
      let installed : IsInstalled of top_home table_after changes_here = groups_installed s used of top_home i (ws ∷ []) home_rising group_never group_distinct in
      has_level_from of top_home u.table table_after ws (all_new all_here) (all_fresh all_here) home_others
      (subst (λ (qs : List (Placed V)). HasLevel of top_home table_after ws (all_new all_here) qs) (sym same_fresh) (installed-top s used i of top_home table_after ws level_home level_distinct level_fresh installed))

  through_here : HasClimbed of t tree_after (level_of ws [] used i) (climb s used i ws [])
  through_here =
      let rising : AreRisingPids (pids_in_use table_after) = groups_rising s used of top_home i (ws ∷ []) home_rising group_never group_distinct in
      let grew : levels ≡ u.height + length above_here = c.height ∙ ap (λ (n : ℕ). n + length above_here) (sym c.grown.height) in
      top-climbed s used i ws h.stacked h.old of t u tree_after made_ready c.grown.new (record { level = after_level; rising = rising; logged = after_logged }) c.root grew

  -- in the form of the code
  pub top_through : (home replaced after : TreeInMemory) → home ≡ record u { table = top_home } → replaced ≡ record home { table = all_installed home.table given } → after ≡ record replaced { root = pid; height = levels } → HasClimbed of t after (level_of ws [] used i) (climb s used i ws [])
  top_through home replaced after p q r =
      let whole : Mapping PageOfKind → TreeInMemory = λ v. record { table = v; root = pid; height = levels } in
      let is : after ≡ tree_after =
      r ∙ ap (λ (v : TreeInMemory). whole v.table) q ∙ ap (λ (v : TreeInMemory). whole (all_installed v.table given)) p ∙ ap (λ (rs : List Remade). whole (all_installed top_home rs)) c.groups in
      subst (λ (v : TreeInMemory). HasClimbed of t v (level_of ws [] used i) (climb s used i ws [])) (sym is) through_here

-- ---- in the form of the code

module _ {V : Type 0} (of : Page V → PageOfKind) (t : TreeInMemory) (xs : List SeenPage) where
  alone_by : (ws : List (Updated V)) (ups : List (List (Placed ℕ))) (used : List ℕ) (i : ℕ) → IsLevel of t xs (level_of ws ups used i) → 0 ≡ length ups → IsLevel of t xs (level_of ws [] used i)
  alone_by ws [] used i h e = h
  alone_by ws (up ∷ ups) used i h e = absurd (omega arith)

  -- a level that is no level below the root has none above it
  pub top_level : (d : ℕ) → d ≡ 0 → SomeLevel of t xs d → (l : LevelPlan V) × IsLevel of t xs (alone l)
  top_level d z l = (l.0, alone_by l.0.updated l.0.above l.0.used l.0.from l.1 (sym z ∙ l.2))

  climbs_by : (s : Settings) (after : TreeInMemory) → ((l : LevelPlan V) → IsLevel of t xs (alone l) → HasClimbed of t after (alone l) (climb_of s (alone l)))
      → (ws : List (Updated V)) (ups : List (List (Placed ℕ))) (used : List ℕ) (i : ℕ) → IsLevel of t xs (level_of ws ups used i) → 0 ≡ length ups → HasClimbed of t after (level_of ws ups used i) (climb s used i ws ups)
  climbs_by s after f ws [] used i h e = f (level_of ws [] used i) h
  climbs_by s after f ws (up ∷ ups) used i h e = absurd (omega arith)

  -- if it has climbed, the levels from it on have
  pub top_climbs : (s : Settings) (after : TreeInMemory) → ((l : LevelPlan V) → IsLevel of t xs (alone l) → HasClimbed of t after (alone l) (climb_of s (alone l))) → ClimbsFrom of s t after xs 0
  top_climbs s after f l h e = climbs_by s after f l.updated l.above l.used l.from h e

  high_by : (s : Settings) → ((l : LevelPlan V) → IsLevel of t xs (alone l) → 64 < t.height + length (climb_of s (alone l)).tower.above)
      → (ws : List (Updated V)) (ups : List (List (Placed ℕ))) (used : List ℕ) (i : ℕ) → IsLevel of t xs (level_of ws ups used i) → 0 ≡ length ups → 64 + length ups < t.height + length (climb s used i ws ups).tower.above
  high_by s f ws [] used i h e = let more : 64 < t.height + length (climb s used i ws []).tower.above = f (level_of ws [] used i) h in omega arith
  high_by s f ws (up ∷ ups) used i h e = absurd (omega arith)

  -- and if it would be too high, they would
  pub top_high : (s : Settings) → ((l : LevelPlan V) → IsLevel of t xs (alone l) → 64 < t.height + length (climb_of s (alone l)).tower.above) → IsTooHighFrom of s t xs 0
  top_high s f l h e = high_by s f l.updated l.above l.used l.from h e

-- the same of the level as it was passed to the callee
pub changed_for : {V D : Type 0} (s : Settings) (of : Page V → PageOfKind) (t u : TreeInMemory) (given : List Remade) (pid levels : ℕ) (seen : D → SeenPage) (ds lent : List D) → lent ≡ ds
    → TopChangesFrom of s t u (map seen lent) given pid levels → TopChangesFrom of s t u (map seen ds) given pid levels
changed_for s of t u given pid levels seen ds lent e changed = subst (λ (es : List _). TopChangesFrom of s t u (map seen es) given pid levels) e changed
