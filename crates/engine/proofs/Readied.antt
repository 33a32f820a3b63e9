-- A tree whose touched leaves were checked out and updated is ready to climb; after they are put back, the tree is the same as before.
use Rattle.std.specs.Prelude.{◌≡◌, ◌≢◌, ℕ, Bool, true, false, List, [], ◌∷◌, map, flat_map, Option, Some, None, IsSome, is_some}
use Rattle.std.proofs.Common.{refl, sym, ap, ◌∙◌, subst}
use Rattle.std.specs.declared.alloc.Global.{Global}
use Rattle.std.specs.List.{AllByRecursion, filter}
use Rattle.std.specs.Map.{keys_of}
use Rattle.keys.specs.declared.command.Command.{Command}
use Rattle.keys.specs.declared.settings.Settings.{Settings}
use Rattle.index_page.specs.Page.{Page, PageOfKind}
use Rattle.index_page.specs.Page.PageOfKind.{Leaf, Index}
use Rattle.index_page.proofs.ListLemmas.{all_weaker}
use Rattle.mapping.specs.Levels.{Placed, joined, pids, all_pids, levels_of}
use Rattle.mapping.specs.FreshPids.{is_among}
use Rattle.mapping.specs.Proper.{next_low, Tiled, Distinct, AreRisingPids, HasIndexPages}
use Rattle.mapping.specs.Table.{Mapping, pids_in_use, place_of, page_of, at_home}
use Rattle.mapping.specs.Tree.{page_at}
use Rattle.mapping.specs.TreeInMemory.{TreeInMemory, home_pages, tree_of}
use Rattle.mapping.proofs.HomePages.{page-home}
use Rattle.mapping.proofs.TileLemmas.{rising-joined}
use Rattle.routing.specs.Routes.{Route, routes}
use Rattle.page_runs.specs.LeafWork.{LeafMade}
use Rattle.page_runs.specs.NetRun.{net_run}
use Rattle.split_plan.specs.UpdatedLevel.{updated_leaves}
use Rattle.climb_plan.specs.Changing.{page_seen, AreSeen, AreHome}
use Rattle.climb_plan.specs.Installing.{all_taken, all_put, AreAway, page_or_none}
use Rattle.climb_plan.specs.Ready.{IsReady}
use Rattle.climb_plan.proofs.ArrivedPages.{home_keys}
use Rattle.climb_plan.proofs.BridgeTables.{taken_others, taken_logged, taken_pids}
use Rattle.climb_plan.proofs.Climbing.{still_home_above}
use Rattle.climb_plan.proofs.Installing.{distinct_first}
use Rattle.climb_plan.proofs.InstallingLemmas.{none_of, not_among, away-all_taken, put_back_is_before, none_after}
use Rattle.engine.specs.Leaves.{route_pids, leaves_made}
use Rattle.engine.specs.SoundTree.{IsSoundInMemory}
use Rattle.engine.proofs.OwnRuns.{all_left}
use Rattle.engine.proofs.PartedLemmas.{all_passing, distinct_passing}
use Rattle.engine.proofs.SeenLeaves.{ComeToNone, all_routed, distinct_routes, seen_from}

-- ---- names for the subjects of the statements

-- the leaves of the tree that commands go to and that pass
abbrev pub routes_here : TreeInMemory → List (Command Global) → (Route → Bool) → List Route
routes_here m cs w = filter w (routes (levels_of (tree_of m)).level cs)

-- the results for these leaves
abbrev pub made_here : Settings → TreeInMemory → List (Command Global) → (Route → Bool) → List LeafMade
made_here s m cs w = leaves_made s cs m.table (routes_here m cs w)

-- the tree without them
abbrev pub taken_here : TreeInMemory → List (Command Global) → (Route → Bool) → TreeInMemory
taken_here m cs w = record m { table = all_taken m.table (route_pids (routes_here m cs w)) }

-- the pages of a table under the pids of these routes
abbrev pub under_routes : Mapping PageOfKind → List Route → List (ℕ × PageOfKind)
under_routes t rs = map (λ r. (r.pid, page_or_none (page_of t r.pid))) rs

-- these leaves, as they were
abbrev pub leaves_here : TreeInMemory → List (Command Global) → (Route → Bool) → List (ℕ × PageOfKind)
leaves_here m cs w = under_routes m.table (routes_here m cs w)

-- ---- the leaves of a level that tiles all keys

-- the views of them, and the fact that the others are in the table
seen_level : (s : Settings) (cs : List (Command Global)) (t : Mapping PageOfKind) (w : Route → Bool) → ComeToNone cs w → (ps : List (Placed (List ℕ))) → next_low ps None ≡ Some [] → Tiled ps None → AreHome Leaf t ps → Distinct (pids ps)
    → AreSeen Leaf (all_taken t (route_pids (filter w (routes ps cs)))) (map (λ d. page_seen Leaf d.updated) (leaves_made s cs t (filter w (routes ps cs)))) (updated_leaves s (net_run (joined ps) cs) ps)
seen_level s cs t w quiet [] e tiled h d = absurd (cc)
seen_level s cs t w quiet (p ∷ ps) e tiled h d =
    let least : p.page.low ≡ [] = cc in
    seen_from s cs t w quiet (joined (p ∷ ps)) (rising-joined (p ∷ ps) None tiled) p ps (net_run (joined (p ∷ ps)) cs) t tiled (all_left cs p ps least) h h d

-- ---- tables

home_by : (o : Option (Option PageOfKind)) (x : PageOfKind) → at_home o ≡ Some x → o ≡ Some (Some x)
home_by None x h = absurd (cc)
home_by (Some p) x h = ap (λ (y : Option PageOfKind). Some y) h

module _ (t : Mapping PageOfKind) (home : AllByRecursion (λ e. IsSome e.1) t.places) where
  -- if all pages are in the table, the listed pages are
  listed_home : {V : Type 0} (of : Page V → PageOfKind) (ps : List (Placed V)) → AllByRecursion (λ p. page_at (home_pages t.places) p.pid ≡ Some (of p.page)) ps → AreHome of t ps
  listed_home of [] a = tt
  listed_home of (p ∷ ps) a = (home_by (place_of t p.pid) (of p.page) (page-home t.places p.pid home ∙ a.0), listed_home of ps a.1)

  listed_above : (ls : List (List (Placed ℕ))) → AllByRecursion (HasIndexPages (home_pages t.places)) ls → AllByRecursion (AreHome Index t) ls
  listed_above ls a = all_weaker (HasIndexPages (home_pages t.places)) (AreHome Index t) (listed_home Index) ls a

apart_from : (n : ℕ) (ks : List ℕ) → is_among n ks ≡ false → AllByRecursion (λ k. k ≢ n) ks
apart_from n [] h = tt
apart_from n (k ∷ ks) h = let r = none_of n k ks h in ((λ e. r.0 (sym e)), apart_from n ks r.1)

module _ (t : Mapping PageOfKind) (cs : List (Command Global)) (w : Route → Bool) (ps : List (Placed (List ℕ))) where
  abbrev taken : Mapping PageOfKind
  taken = all_taken t (route_pids (filter w (routes ps cs)))

  -- pages under other pids are unchanged
  others_stay : (n : ℕ) → is_among n (pids ps) ≡ false → place_of taken n ≡ place_of t n
  others_stay n h =
      let apart = all_passing w (λ k. k ≢ n) (routes ps cs) (all_routed (λ k. k ≢ n) ps cs (apart_from n (pids ps) h)) in
      taken_others t (route_pids (filter w (routes ps cs))) n (not_among n (route_pids (filter w (routes ps cs))) apart)

  above_stay : (ls : List (List (Placed ℕ))) → Distinct (all_pids ps ls) → AllByRecursion (AreHome Index t) ls → AllByRecursion (AreHome Index taken) ls
  above_stay ls d h =
      still_home_above t taken ls (all_weaker (λ n. is_among n (pids ps) ≡ false) (λ n. place_of taken n ≡ place_of t n) others_stay (flat_map pids ls) (none_after (pids ps) (flat_map pids ls) d)) h

-- ---- the leaves are put back

-- a page is in the table under the pid
abbrev IsThere : Mapping PageOfKind → ℕ → Type 0
IsThere t n = place_of t n ≡ Some (Some (page_or_none (page_of t n)))

there_by : (o : Option (Option PageOfKind)) (x : PageOfKind) → o ≡ Some (Some x) → o ≡ Some (Some (page_or_none (at_home o)))
there_by None x h = absurd (cc)
there_by (Some None) x h = absurd (cc)
there_by (Some (Some p)) x h = refl

are_there : (t : Mapping PageOfKind) (ps : List (Placed (List ℕ))) → AreHome Leaf t ps → AllByRecursion (IsThere t) (pids ps)
are_there t [] h = tt
are_there t (p ∷ ps) h = (there_by (place_of t p.pid) (Leaf p.page) h.0, are_there t ps h.1)

keys-under_routes : (t : Mapping PageOfKind) (rs : List Route) → keys_of (under_routes t rs) ≡ route_pids rs
keys-under_routes t [] = refl
keys-under_routes t (r ∷ rs) = ap (λ (ns : List ℕ). r.pid ∷ ns) (keys-under_routes t rs)

home-under_routes : (t : Mapping PageOfKind) (rs : List Route) → AllByRecursion (IsThere t) (route_pids rs) → AllByRecursion (λ e. place_of t e.0 ≡ Some (Some e.1)) (under_routes t rs)
home-under_routes t [] h = tt
home-under_routes t (r ∷ rs) h = (h.0, home-under_routes t rs h.1)

back_under_routes : (t : Mapping PageOfKind) (rs : List Route) → AreRisingPids (pids_in_use t) → Distinct (route_pids rs) → AllByRecursion (IsThere t) (route_pids rs) → all_put (all_taken t (route_pids rs)) (under_routes t rs) ≡ t
back_under_routes t rs r d h =
    let same : keys_of (under_routes t rs) ≡ route_pids rs = keys-under_routes t rs in
    ap (λ (ns : List ℕ). all_put (all_taken t ns) (under_routes t rs)) (sym same)
    ∙ put_back_is_before t (under_routes t rs) r (subst (λ (ns : List ℕ). Distinct ns) (sym same) d) (home-under_routes t rs h)

-- ---- the tree

module _ (s : Settings) (m : TreeInMemory) (cs : List (Command Global)) (w : Route → Bool) (sound : IsSoundInMemory s m) where
  home_level : AreHome Leaf m.table (levels_of (tree_of m)).level
  home_level = listed_home m.table sound.home Leaf (levels_of (tree_of m)).level sound.sound.proper.held.leaves

  distinct_level : Distinct (pids (levels_of (tree_of m)).level)
  distinct_level = distinct_first (pids (levels_of (tree_of m)).level) (flat_map pids (levels_of (tree_of m)).above) sound.sound.proper.levels.distinct

  distinct_here : Distinct (route_pids (routes_here m cs w))
  distinct_here = distinct_passing w (routes (levels_of (tree_of m)).level cs) (distinct_routes (levels_of (tree_of m)).level cs distinct_level)

  there_here : AllByRecursion (IsThere m.table) (route_pids (routes_here m cs w))
  there_here = all_passing w (IsThere m.table) (routes (levels_of (tree_of m)).level cs) (all_routed (IsThere m.table) (levels_of (tree_of m)).level cs (are_there m.table (levels_of (tree_of m)).level home_level))

  rising_here : AreRisingPids (pids_in_use m.table)
  rising_here = subst (λ (ns : List ℕ). AreRisingPids ns) (home_keys m.table.places sound.home) sound.sound.proper.tree.rising

  in_use_here : pids_in_use (taken_here m cs w).table ≡ keys_of (tree_of m).pages
  in_use_here =
      taken_pids m.table (route_pids (routes_here m cs w)) rising_here
      (all_weaker (IsThere m.table) (λ n. is_some (place_of m.table n) ≡ true) (λ n h. ap (λ (o : Option (Option PageOfKind)). is_some o) h) (route_pids (routes_here m cs w)) there_here)
      ∙ sym (home_keys m.table.places sound.home)

  -- the tree is ready to climb, if the commands of those that do not pass have an empty net run
  pub ready_here : ComeToNone cs w → IsReady s (tree_of m) cs (taken_here m cs w) (map (λ d. page_seen Leaf d.updated) (made_here s m cs w))
  ready_here quiet = record {
    proper = sound.sound.proper;
    logs = sound.sound.logs;
    leaves = seen_level s cs m.table w quiet (levels_of (tree_of m)).level sound.sound.proper.levels.first sound.sound.proper.levels.tiled home_level distinct_level;
    above = above_stay m.table cs w (levels_of (tree_of m)).level (levels_of (tree_of m)).above sound.sound.proper.levels.distinct (listed_above m.table sound.home (levels_of (tree_of m)).above sound.sound.proper.held.above);
    in_use = in_use_here;
    logged = taken_logged m.table (route_pids (routes_here m cs w));
    root = refl;
    height = refl;
  }

  -- the places of the leaves are empty
  pub taken_away : AreAway (taken_here m cs w).table (route_pids (routes_here m cs w))
  taken_away = (away-all_taken m.table (route_pids (routes_here m cs w)) distinct_here, distinct_here)

  -- after they are put back, the tree is the same as before
  pub put_back_here : record (taken_here m cs w) { table = all_put (taken_here m cs w).table (leaves_here m cs w) } ≡ m
  put_back_here = ap (λ (t : Mapping PageOfKind). record m { table = t }) (back_under_routes m.table (routes_here m cs w) rising_here distinct_here there_here)
