-- A level of a climb after the levels above it have climbed: its pages can be put back, its groups can be replaced, and then it has climbed.
use Rattle.std.specs.Prelude.{◌≡◌, ◌≢◌, ℕ, ◌+◌, true, false, nat_eq, List, [], ◌∷◌, ◌++◌, map, flat_map, length, Option, Some, None, IsSome}
use Rattle.std.proofs.Common.{refl, sym, ap, ◌∙◌, subst, arith}
use Rattle.std.specs.List.{filter, AllByRecursion, range_with_len}
use Rattle.std.proofs.lemmas.Bool.{or_parts, or_from, false_from_ne_true}
use Rattle.keys.specs.Lists.{flat}
use Rattle.keys.specs.declared.settings.Settings.{Settings}
use Rattle.keys.proofs.Basics.{or_turned}
use Rattle.index_page.specs.Page.{Page, PageOfKind}
use Rattle.index_page.specs.Page.PageOfKind.{Index}
use Rattle.index_page.proofs.ListLemmas.{all_apart}
use Rattle.mapping.specs.Levels.{Placed, pids, all_pids}
use Rattle.mapping.specs.FreshPids.{is_among, unused, IsNeverUnused}
use Rattle.mapping.specs.Outdate.{outdate_all}
use Rattle.mapping.specs.Proper.{Distinct, AreRisingPids}
use Rattle.mapping.specs.Table.{Mapping, pids_in_use, place_of, page_of, with_rooms, fresh_pids}
use Rattle.mapping.specs.Table as table
use Rattle.mapping.specs.Tree.{Logged}
use Rattle.mapping.specs.TreeInMemory.{TreeInMemory}
use Rattle.mapping.proofs.PidLemmas.{all_among, among_left}
use Rattle.page_runs.specs.Updated.{Updated}
use Rattle.split_plan.specs.Change.{Change, is_rewritten, changes, family_changes, fresh_of, all_new, all_fresh, all_outdated}
use Rattle.split_plan.specs.UpdatedLevel.{placed_of}
use Rattle.climb_plan.specs.Changing.{SeenPage, page_seen, AreSeen, AreHome, Changing, changing_families, changing_groups, parents_of}
use Rattle.climb_plan.specs.Changing.AreSeen.{updated, at_home}
use Rattle.climb_plan.specs.Climb.{climb, families}
use Rattle.climb_plan.specs.HasClimbed.{HasClimbed}
use Rattle.climb_plan.specs.Installing.{AreAway, come_home, all_come_home, all_installed, CanInstallAll}
use Rattle.climb_plan.specs.Level.{IsKind, IsLevel, parent_pids, remade_of, next_tree}
use Rattle.climb_plan.proofs.BridgeDrawn.{drawn_places}
use Rattle.climb_plan.proofs.BridgeGroups.{AreInOrder, changing_in_order}
use Rattle.climb_plan.proofs.BridgeTables.{AreDrawn, taken_others, taken_logged, drawn_others}
use Rattle.climb_plan.proofs.ChangedRooms.{shifted}
use Rattle.climb_plan.proofs.ChangingGroups.{all_groups, groups-changing_families, fresh_on_level}
use Rattle.climb_plan.proofs.ChangingOutdated.{updated_pids-placed, among-joined, all_groups-joined, outdated-level, outdate-joined, outdate-same}
use Rattle.climb_plan.proofs.ChangingSeen.{seen_replaced}
use Rattle.climb_plan.proofs.Climbing.{IsMadeReady, has_level_from}
use Rattle.climb_plan.proofs.ClimbingLevel.{plan_above, climbed_above, level_untouched, fresh_untouched, level-climbed}
use Rattle.climb_plan.proofs.Families.{families-joined}
use Rattle.climb_plan.proofs.InstalledLevel.{HasLevel, installed-level}
use Rattle.climb_plan.proofs.InstalledPages.{AreFreshFor, distinct_apart, at_among}
use Rattle.climb_plan.proofs.Installing.{home_apart, distinct_first}
use Rattle.climb_plan.proofs.InstallingLemmas.{not_among, others-all_come_home, home-all_come_home, rising-all_come_home, logged-all_come_home}
use Rattle.climb_plan.proofs.ThroughGroups.{fresh_numbers, groups_can_be_installed, groups_installed, groups_rising, groups_logged}
use Rattle.climb_plan.proofs.TermRuns.{all_termed, all_terms_given}
use Rattle.climb_plan.proofs.Installed.{IsInstalled, updated_pids, replaced_among}
use Rattle.climb_plan.proofs.LevelParts.{level_of}

-- ---- the pages of a level that were seen

-- their pids
abbrev pub seen_pids : List SeenPage → List ℕ
seen_pids xs = map (λ x. x.pid) xs

module _ {V : Type 0} (of : Page V → PageOfKind) (t : Mapping PageOfKind) where
  -- what holds of all pids of a level holds of those
  seen_all : (P : ℕ → Type 0) {xs : List SeenPage} {ws : List (Updated V)} → AreSeen of t xs ws → AllByRecursion P (updated_pids ws) → AllByRecursion P (seen_pids xs)
  seen_all P (AreSeen.none) h = tt
  seen_all P (updated w e r) h = (h.0, seen_all P r h.1)
  seen_all P (at_home p e r) h = seen_all P r h.1

  pub seen_distinct : {xs : List SeenPage} {ws : List (Updated V)} → AreSeen of t xs ws → Distinct (updated_pids ws) → Distinct (seen_pids xs)
  seen_distinct (AreSeen.none) d = tt
  seen_distinct (updated w e r) d = (seen_all (λ k. k ≢ w.placed.pid) r d.0, seen_distinct r d.1)
  seen_distinct (at_home p e r) d = seen_distinct r d.1

  -- they are checked out as long as their places stay
  pub seen_away : (u : Mapping PageOfKind) {xs : List SeenPage} {ws : List (Updated V)} → AreSeen of t xs ws → AllByRecursion (λ k. place_of u k ≡ place_of t k) (updated_pids ws) → AllByRecursion (λ k. place_of u k ≡ Some None) (seen_pids xs)
  seen_away u (AreSeen.none) h = tt
  seen_away u (updated w e r) h = (h.0 ∙ e, seen_away u r h.1)
  seen_away u (at_home p e r) h = seen_away u r h.1

  -- a pid that isn't the level's isn't one of theirs
  pub not_seen : (n : ℕ) {xs : List SeenPage} {ws : List (Updated V)} → AreSeen of t xs ws → is_among n (updated_pids ws) ≡ false → is_among n (seen_pids xs) ≡ false
  not_seen n (AreSeen.none) h = refl
  not_seen n (updated {xs = xs} {ws = ws} w e r) h =
      let parts = or_parts (nat_eq n w.placed.pid) (is_among n (updated_pids ws)) h in
      or_from (nat_eq n w.placed.pid) (is_among n (seen_pids xs)) parts.0 (not_seen n r parts.1)
  not_seen n (at_home {ws = ws} p e r) h = not_seen n r (or_parts (nat_eq n p.pid) (is_among n (updated_pids ws)) h).1

  stay_put : (v : Mapping PageOfKind) (x : SeenPage) (ns : List ℕ) → AllByRecursion (λ k. k ≢ x.pid) ns → AllByRecursion (λ k. place_of v k ≡ place_of t k) ns → AllByRecursion (λ k. place_of (come_home v x) k ≡ place_of t k) ns
  stay_put v x [] d h = tt
  stay_put v x (n ∷ ns) d h = (home_apart v x n d.0 ∙ h.0, stay_put v x ns d.1 h.1)

  -- after they are put back, all pages of the level are in the table
  pub home_back : (v : Mapping PageOfKind) {xs : List SeenPage} {ws : List (Updated V)} → AreSeen of t xs ws → AllByRecursion (λ k. place_of v k ≡ place_of t k) (updated_pids ws) → Distinct (updated_pids ws) → AreHome of (all_come_home v xs) (placed_of ws)
  home_back v (AreSeen.none) h d = tt
  home_back v (updated {xs = xs} {ws = ws} w e r) h d =
      let x : SeenPage = page_seen of w in
      let own = home-all_come_home v (x ∷ xs) (seen_all (λ k. k ≢ w.placed.pid) r d.0, seen_distinct r d.1) in
      (own.0, home_back (come_home v x) r (stay_put v x (updated_pids ws) d.0 h.1) d.1)
  home_back v (at_home {xs = xs} p e r) h d =
      (others-all_come_home p.pid v xs (not_among p.pid (seen_pids xs) (seen_all (λ k. k ≢ p.pid) r d.0)) ∙ h.0 ∙ e, home_back v r h.1 d.1)

module _ {V : Type 0} (of : Page V → PageOfKind) (t : Mapping PageOfKind) where
  some_home : (p : PageOfKind) (o : Option (Option PageOfKind)) → o ≡ Some (Some p) → IsSome (table.at_home o)
  some_home p o e = subst (λ (x : Option (Option PageOfKind)). IsSome (table.at_home x)) (sym e) refl

  pub pages_home : (ws : List (Updated V)) → AreHome of t (placed_of ws) → AllByRecursion (λ k. IsSome (page_of t k)) (updated_pids ws)
  pages_home [] h = tt
  pages_home (w ∷ ws) h = (some_home (of w.placed.page) (place_of t w.placed.pid) h.0, pages_home ws h.1)

-- ---- numbers that are never given

pub never_given : (used : List ℕ) (ns js : List ℕ) → AllByRecursion (IsNeverUnused used) ns → AllByRecursion (λ k. is_among k ns ≡ false) (map (unused used) js)
never_given used ns [] h = tt
never_given used ns (j ∷ js) h =
    (false_from_ne_true (is_among (unused used j) ns) (λ e. at_among (IsNeverUnused used) (unused used j) ns h e j refl), never_given used ns js h)

pub all_each : (P Q : ℕ → Type 0) (ns : List ℕ) → ((k : ℕ) → P k → Q k) → AllByRecursion P ns → AllByRecursion Q ns
all_each P Q [] f h = tt
all_each P Q (n ∷ ns) f h = (f n h.0, all_each P Q ns f h.1)

by_pid : (P : ℕ → Type 0) (ps : List (Placed ℕ)) → AllByRecursion P (pids ps) → AllByRecursion (λ p. P p.pid) ps
by_pid P [] h = tt
by_pid P (p ∷ ps) h = (h.0, by_pid P ps h.1)

module _ {V : Type 0} where
  to_parents : (P : ℕ → Type 0) (chs : List (Changing V)) → AllByRecursion (λ p. P p.pid) (parents_of chs) → AllByRecursion P (parent_pids chs)
  to_parents P [] h = tt
  to_parents P (c ∷ chs) h = (h.0, to_parents P chs h.1)

-- ---- a level under parents

module _ {V : Type 0} (s : Settings) (of : Page V → PageOfKind) (t : TreeInMemory) (xs : List SeenPage) (ws : List (Updated V)) (ps : List (Placed ℕ)) (ups : List (List (Placed ℕ))) (used : List ℕ) (i : ℕ) (h : IsLevel of t xs (level_of ws (ps ∷ ups) used i)) where
  abbrev groups_here : List (List (Updated V))
  groups_here = changing_groups (changing_families ps ws)

  abbrev changes_here : List (Change V)
  changes_here = changes s used i groups_here

  abbrev count_here : ℕ
  count_here = length (fresh_of changes_here)

  abbrev taken_here : List ℕ
  taken_here = parent_pids (changing_families ps ws)

  -- the tree from which the levels above climb
  abbrev pub ready_here : TreeInMemory
  ready_here = next_tree t count_here taken_here

  abbrev rooms_here : Mapping PageOfKind
  rooms_here = with_rooms t.table (fresh_pids (pids_in_use t.table) count_here)

  abbrev all_here : List (List (Change V))
  all_here = family_changes s used i (families ps ws)

  drawn_here : AreDrawn t.table rooms_here count_here
  drawn_here = drawn_places count_here t.table h.rising

  pub joined_here : flat (families ps ws) ≡ ws
  joined_here = families-joined ps ws h.stacked.0.linked

  level_never : AllByRecursion (IsNeverUnused used) (updated_pids ws)
  level_never = subst (λ (ns : List ℕ). AllByRecursion (IsNeverUnused used) ns) (sym (updated_pids-placed ws)) (all_apart (IsNeverUnused used) (pids (placed_of ws)) (all_pids ps ups) h.old).0

  parents_never : AllByRecursion (IsNeverUnused used) (pids ps)
  parents_never = (all_apart (IsNeverUnused used) (pids ps) (flat_map pids ups) (all_apart (IsNeverUnused used) (pids (placed_of ws)) (all_pids ps ups) h.old).1).0

  level_distinct : Distinct (updated_pids ws)
  level_distinct = subst (λ (ns : List ℕ). Distinct ns) (sym (updated_pids-placed ws)) (distinct_first (pids (placed_of ws)) (all_pids ps ups) h.distinct)

  -- ---- which pids are which

  taken_are_parents : AllByRecursion (λ k. is_among k (pids ps) ≡ true) taken_here
  taken_are_parents =
      to_parents (λ k. is_among k (pids ps) ≡ true) (changing_families ps ws) (all_termed (λ p. is_among p.pid (pids ps) ≡ true) (all_terms_given s used i ps ws) (by_pid (λ k. is_among k (pids ps) ≡ true) ps (all_among (pids ps))))

  not_taken : (n : ℕ) → is_among n (pids ps) ≡ false → is_among n taken_here ≡ false
  not_taken n e =
      false_from_ne_true (is_among n taken_here) (λ a. let b : is_among n (pids ps) ≡ true = at_among (λ k. is_among k (pids ps) ≡ true) n taken_here taken_are_parents a in absurd (cc))

  not_parent : (n : ℕ) → is_among n (updated_pids ws) ≡ true → is_among n (pids ps) ≡ false
  not_parent n e =
      let own : is_among n (pids (placed_of ws)) ≡ true = ap (λ (ns : List ℕ). is_among n ns) (sym (updated_pids-placed ws)) ∙ e in
      let apart : is_among n (all_pids ps ups) ≡ false = (distinct_apart (pids (placed_of ws)) (all_pids ps ups) h.distinct).0 n own in
      false_from_ne_true (is_among n (pids ps)) (λ a. let b : is_among n (all_pids ps ups) ≡ true = among_left n (pids ps) (flat_map pids ups) a in absurd (cc))

  given_here : fresh_pids (pids_in_use t.table) count_here ≡ pids (fresh_of changes_here)
  given_here =
      let e : i ≡ i + 0 = omega arith in
      shifted used (pids_in_use t.table) i 0 i count_here e h.drawn ∙ sym (fresh_numbers s used i groups_here)

  fresh_apart_from : (ns : List ℕ) → AllByRecursion (IsNeverUnused used) ns → AllByRecursion (λ k. is_among k ns ≡ false) (pids (fresh_of changes_here))
  fresh_apart_from ns a =
      subst (λ (ks : List ℕ). AllByRecursion (λ k. is_among k ns ≡ false) ks) (sym (fresh_numbers s used i groups_here)) (never_given used ns (range_with_len i count_here) a)

  -- ---- what changes before the levels above climb

  pub made_ready : IsMadeReady t ready_here ws (all_fresh all_here) (pids ps)
  made_ready = record {
    others = λ n a b c. taken_others rooms_here taken_here n (not_taken n c) ∙ drawn_here.others n (ap (λ (ns : List ℕ). is_among n ns) (given_here ∙ ap (λ (qs : List (Placed V)). pids qs) (sym (fresh_on_level s used i ps ws))) ∙ b);
    logged = taken_logged rooms_here taken_here ∙ drawn_here.logged;
    height = refl;
  }

  stays_ready : (n : ℕ) → is_among n (updated_pids ws) ≡ true → place_of ready_here.table n ≡ place_of t.table n
  stays_ready n e =
      taken_others rooms_here taken_here n (not_taken n (not_parent n e)) ∙ drawn_others t.table rooms_here count_here used i n drawn_here h.drawn (at_among (IsNeverUnused used) n (updated_pids ws) level_never e)

  fresh_ready : (n : ℕ) → is_among n (pids (fresh_of changes_here)) ≡ true → place_of ready_here.table n ≡ Some None
  fresh_ready n e =
      let other : is_among n (pids ps) ≡ false = at_among (λ k. is_among k (pids ps) ≡ false) n (pids (fresh_of changes_here)) (fresh_apart_from (pids ps) parents_never) e in
      taken_others rooms_here taken_here n (not_taken n other) ∙ drawn_here.away n (ap (λ (ns : List ℕ). is_among n ns) given_here ∙ e)

  -- ---- after the levels above have climbed

  module _ (above : TreeInMemory) (up : HasClimbed Index ready_here above (plan_above s used i ps ws ups) (climbed_above s used i ps ws ups)) where
    places_stay : AllByRecursion (λ k. place_of above.table k ≡ place_of t.table k) (updated_pids ws)
    places_stay =
        all_each (λ k. is_among k (updated_pids ws) ≡ true) (λ k. place_of above.table k ≡ place_of t.table k) (updated_pids ws)
        (λ k e. level_untouched s used i ps ws ups joined_here h.stacked.1 h.old h.distinct ready_here above up k e ∙ stays_ready k e)
        (all_among (updated_pids ws))

    -- the pages that were seen are checked out
    pub level_away : AreAway above.table (seen_pids xs)
    level_away = (seen_away of t.table above.table h.seen places_stay, seen_distinct of t.table h.seen level_distinct)

    -- the table after they were put back
    abbrev pub table_home : Mapping PageOfKind
    table_home = all_come_home above.table xs

    level_home : AreHome of table_home (placed_of ws)
    level_home = home_back of t.table above.table h.seen places_stay level_distinct

    home_rising : AreRisingPids (pids_in_use table_home)
    home_rising = rising-all_come_home above.table xs up.rising

    home_others : (n : ℕ) → is_among n (updated_pids ws) ≡ false → place_of table_home n ≡ place_of above.table n
    home_others n e = others-all_come_home n above.table xs (not_seen of t.table n h.seen e)

    level_fresh : AreFreshFor ws (fresh_of changes_here)
    level_fresh = fresh_apart_from (updated_pids ws) level_never

    fresh_home : AllByRecursion (λ k. place_of table_home k ≡ Some None) (pids (fresh_of changes_here))
    fresh_home =
        let ks : List ℕ = pids (fresh_of changes_here) in
        all_each (λ k. is_among k ks ≡ true) (λ k. place_of table_home k ≡ Some None) ks
        (λ k e. home_others k (at_among (λ n. is_among n (updated_pids ws) ≡ false) k ks level_fresh e)
        ∙ fresh_untouched s used i ps ws ups joined_here h.stacked.1 h.old h.distinct ready_here above up k (ap (λ (qs : List (Placed V)). is_among k (pids qs)) (fresh_on_level s used i ps ws) ∙ e)
        ∙ fresh_ready k e)
        (all_among ks)

    -- ---- its groups are replaced

    abbrev every_group : List (List (Updated V))
    every_group = all_groups (families ps ws)

    same_groups : groups_here ≡ filter is_rewritten every_group
    same_groups = groups-changing_families ps ws

    flat_groups : flat every_group ≡ ws
    flat_groups = all_groups-joined (families ps ws) ∙ joined_here

    groups_never : AllByRecursion (IsNeverUnused used) (updated_pids (flat every_group))
    groups_never = subst (λ (vs : List (Updated V)). AllByRecursion (IsNeverUnused used) (updated_pids vs)) (sym flat_groups) level_never

    groups_apart : Distinct (updated_pids (flat every_group))
    groups_apart = subst (λ (vs : List (Updated V)). Distinct (updated_pids vs)) (sym flat_groups) level_distinct

    -- the groups that are rewritten can be replaced
    pub level_installs : IsKind of → CanInstallAll table_home (map (remade_of of) changes_here)
    level_installs kind =
        let order : AreInOrder (filter is_rewritten every_group) = subst (λ (gs : List (List (Updated V))). AreInOrder gs) same_groups (changing_in_order ps ws None h.tiled h.stacked.0.linked) in
        let home : AreHome of table_home (placed_of (flat every_group)) = subst (λ (vs : List (Updated V)). AreHome of table_home (placed_of vs)) (sym flat_groups) level_home in
        let members : AllByRecursion (λ k. IsSome (page_of table_home k)) (updated_pids (flat every_group)) =
        subst (λ (vs : List (Updated V)). AllByRecursion (λ k. IsSome (page_of table_home k)) (updated_pids vs)) (sym flat_groups) (pages_home of table_home ws level_home) in
        let fresh : AllByRecursion (λ k. place_of table_home k ≡ Some None) (pids (fresh_of (changes s used i (filter is_rewritten every_group)))) =
        subst (λ (gs : List (List (Updated V))). AllByRecursion (λ k. place_of table_home k ≡ Some None) (pids (fresh_of (changes s used i gs)))) same_groups fresh_home in
        subst (λ (gs : List (List (Updated V))). CanInstallAll table_home (map (remade_of of) (changes s used i gs))) (sym same_groups) (groups_can_be_installed s used of table_home i every_group home_rising groups_never groups_apart kind order home members fresh)

    -- the table after they are replaced
    abbrev pub table_after : Mapping PageOfKind
    table_after = all_installed table_home (map (remade_of of) changes_here)

    level_installed : IsInstalled of table_home table_after changes_here
    level_installed =
        subst (λ (gs : List (List (Updated V))). IsInstalled of table_home (all_installed table_home (map (remade_of of) (changes s used i gs))) (changes s used i gs)) (sym same_groups) (groups_installed s used of table_home i every_group home_rising groups_never groups_apart)

    after_rising : AreRisingPids (pids_in_use table_after)
    after_rising =
        subst (λ (gs : List (List (Updated V))). AreRisingPids (pids_in_use (all_installed table_home (map (remade_of of) (changes s used i gs))))) (sym same_groups) (groups_rising s used of table_home i every_group home_rising groups_never groups_apart)

    groups_outdated : table_after.logged ≡ outdate_all (updated_pids (flat groups_here)) table_home.logged
    groups_outdated =
        subst (λ (gs : List (List (Updated V))). (all_installed table_home (map (remade_of of) (changes s used i gs))).logged ≡ outdate_all (updated_pids (flat gs)) table_home.logged) (sym same_groups) (groups_logged s used of table_home i every_group home_rising groups_never groups_apart)

    after_logged : table_after.logged ≡ outdate_all (all_outdated all_here) above.table.logged
    after_logged =
        let rewritten : List ℕ = updated_pids (flat groups_here) in
        let replaced : List ℕ = updated_pids (replaced_among ws) in
        groups_outdated
        ∙ ap (λ (ls : List (ℕ × Logged)). outdate_all rewritten ls) (logged-all_come_home above.table xs ∙ ap (λ (ns : List ℕ). outdate_all ns above.table.logged) (sym (seen_replaced of t.table h.seen)))
        ∙ outdate-joined rewritten replaced above.table.logged
        ∙ outdate-same (rewritten ++ replaced) (all_outdated all_here) above.table.logged (λ n. among-joined n rewritten replaced ∙ or_turned (is_among n rewritten) (is_among n replaced) ∙ sym (outdated-level s used i ps ws n joined_here))

    after_level : HasLevel of above.table table_after ws (all_new all_here) (all_fresh all_here)
    after_level =
        has_level_from of table_home above.table table_after ws (all_new all_here) (all_fresh all_here) home_others
        (subst (λ (qs : List (Placed V)). HasLevel of table_home table_after ws (all_new all_here) qs) (sym (fresh_on_level s used i ps ws)) (installed-level s used i of table_home table_after ps ws joined_here level_home level_distinct level_fresh level_installed))

    -- the tree after they are replaced
    abbrev pub tree_after : TreeInMemory
    tree_after = record { table = table_after; root = above.root; height = above.height }

    -- and the level has climbed
    pub level_through : HasClimbed of t tree_after (level_of ws (ps ∷ ups) used i) (climb s used i ws (ps ∷ ups))
    level_through =
        level-climbed s used i ps ws ups joined_here h.stacked.1 h.old h.distinct of t ready_here above tree_after made_ready up (record { level = after_level; rising = after_rising; logged = after_logged }) refl refl
