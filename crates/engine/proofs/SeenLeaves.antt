-- The leaves of a level after those that commands change were checked out and updated: the results for these are the seen pages, and each other leaf
-- is in the table and unchanged.
use Rattle.std.specs.Prelude.{◌≡◌, ◌≢◌, ℕ, ◌||◌, Bool, true, false, cond, List, [], ◌∷◌, map, Option, Some, None}
use Rattle.std.proofs.Common.{refl, sym, ap, ◌∙◌, subst}
use Rattle.std.specs.declared.alloc.Global.{Global}
use Rattle.std.specs.List.{AllByRecursion, filter}
use Rattle.std.proofs.lemmas.Bool.{eq-eqb}
use Rattle.keys.specs.Order.{IsRising}
use Rattle.keys.specs.declared.command.Command.{Command}
use Rattle.keys.specs.declared.settings.Settings.{Settings}
use Rattle.index_page.specs.Page.{PageOfKind}
use Rattle.index_page.specs.Page.PageOfKind.{Leaf}
use Rattle.index_page.proofs.ListLemmas.{all_weaker}
use Rattle.mapping.specs.Levels.{Placed, entries, pids}
use Rattle.mapping.specs.FreshPids.{is_among}
use Rattle.mapping.specs.Proper.{Tiled, Distinct}
use Rattle.mapping.specs.Table.{Mapping, place_of, at_home, with_place}
use Rattle.routing.specs.Routes.{places_within, Route, has_places, routes}
use Rattle.page_runs.specs.LeafWork.{leaf_made}
use Rattle.page_runs.specs.NetRun.{net_run}
use Rattle.page_runs.specs.Replies.{commands_at}
use Rattle.page_runs.specs.Updated.{Updated, updated}
use Rattle.page_runs.proofs.NetLemmas.{Pairs, Changes}
use Rattle.split_plan.specs.UpdatedLevel.{part_below, part_from, updated_leaves}
use Rattle.climb_plan.specs.Changing.{SeenPage, page_seen, AreSeen, AreHome}
use Rattle.climb_plan.specs.Changing.AreSeen.{none as none_seen, updated as updated_seen, at_home as home_seen}
use Rattle.climb_plan.specs.Installing.{all_taken, page_or_none}
use Rattle.climb_plan.proofs.BridgeTables.{taken_others, taken_away}
use Rattle.climb_plan.proofs.Climbing.{still_home}
use Rattle.climb_plan.proofs.InstallingLemmas.{not_among}
use Rattle.engine.specs.Leaves.{route_pids, leaf_held, leaves_made}
use Rattle.engine.proofs.CommandsWithin.{commands_within}
use Rattle.engine.proofs.PartedLemmas.{all_passing}
use Rattle.engine.proofs.OwnRuns.{IsLeft, last_part, first_part, later_part}

-- ---- the pids of routes

module _ (P : ℕ → Type 0) where
  routed_by : (pid : ℕ) (places : List ℕ) (rs : List Route) → P pid → AllByRecursion P (route_pids rs) → (let r : Route = record { pid = pid; places = places } in AllByRecursion P (route_pids (cond (has_places r) (r ∷ rs) rs)))
  routed_by pid [] rs p a = a
  routed_by pid (n ∷ ns) rs p a = (p, a)

  -- what holds of the pids of all pages holds of those that commands go to
  pub all_routed : {V : Type 0} (ps : List (Placed V)) (cs : List (Command Global)) → AllByRecursion P (pids ps) → AllByRecursion P (route_pids (routes ps cs))
  all_routed [] cs a = tt
  all_routed (p ∷ []) cs a = routed_by p.pid (places_within p.page.low None cs) [] a.0 tt
  all_routed (p ∷ q ∷ qs) cs a = routed_by p.pid (places_within p.page.low (Some q.page.low) cs) (routes (q ∷ qs) cs) a.0 (all_routed (q ∷ qs) cs a.1)

distinct_by : (pid : ℕ) (places : List ℕ) (rs : List Route) → AllByRecursion (λ n. n ≢ pid) (route_pids rs) → Distinct (route_pids rs) → (let r : Route = record { pid = pid; places = places } in Distinct (route_pids (cond (has_places r) (r ∷ rs) rs)))
distinct_by pid [] rs a d = d
distinct_by pid (n ∷ ns) rs a d = (a, d)

-- routes to distinct pages are distinct
pub distinct_routes : {V : Type 0} (ps : List (Placed V)) (cs : List (Command Global)) → Distinct (pids ps) → Distinct (route_pids (routes ps cs))
distinct_routes [] cs d = tt
distinct_routes (p ∷ []) cs d = distinct_by p.pid (places_within p.page.low None cs) [] tt tt
distinct_routes (p ∷ q ∷ qs) cs d =
    distinct_by p.pid (places_within p.page.low (Some q.page.low) cs) (routes (q ∷ qs) cs) (all_routed (λ n. n ≢ p.pid) (q ∷ qs) cs d.0) (distinct_routes (q ∷ qs) cs d.1)

-- ---- one leaf

-- its place is empty after it is checked out
first_taken : (u : Mapping PageOfKind) (n : ℕ) (ns : List ℕ) → place_of (all_taken u (n ∷ ns)) n ≡ Some None
first_taken u n ns = taken_away u (n ∷ ns) n (ap (λ (b : Bool). b || is_among n ns) (eq-eqb n n refl))

-- the others stay in the table
still_there : (u : Mapping PageOfKind) (k : ℕ) (ps : List (Placed (List ℕ))) → AllByRecursion (λ n. n ≢ k) (pids ps) → AreHome Leaf u ps → AreHome Leaf (with_place u k None) ps
still_there u k ps d h =
    still_home Leaf u (with_place u k None) ps (all_weaker (λ n. n ≢ k) (λ n. place_of (with_place u k None) n ≡ place_of u n) (λ n e. taken_others u (k ∷ []) n (not_among n (k ∷ []) ((λ f. e (sym f)), tt))) (pids ps) d) h

-- the commands of the routes that do not pass have an empty net run
abbrev pub ComeToNone : List (Command Global) → (Route → Bool) → Type 0
ComeToNone cs w = (r : Route) → w r ≡ false → (n : Pairs) → net_run n (commands_at cs r.places) ≡ []

module _ (s : Settings) (cs : List (Command Global)) (t : Mapping PageOfKind) where
  -- the views of the leaves that were checked out of this table
  abbrev pub seen_of : List Route → List SeenPage
  seen_of rs = map (λ d. page_seen Leaf d.updated) (leaves_made s cs t rs)

  made_is : (p : Placed (List ℕ)) (places : List ℕ) (run : Changes) → place_of t p.pid ≡ Some (Some (Leaf p.page)) → net_run (entries p) (commands_at cs places) ≡ run
      → (leaf_made s cs (leaf_held t (record { pid = p.pid; places = places }))).updated ≡ updated s p run
  made_is p places run h e =
      ap (λ (o : Option (Option PageOfKind)). (leaf_made s cs (record { page = page_or_none (at_home o); route = record { pid = p.pid; places = places } })).updated) h ∙ ap (λ (r : Changes). updated s p r) e

  -- if only those that pass are checked out, and the commands of all others have an empty net run
  module _ (w : Route → Bool) (quiet : ComeToNone cs w) where
    -- for a leaf that gets no run, and stays
    same_there : (p : Placed (List ℕ)) (run : Changes) (rs : List Route) (ws : List (Updated (List ℕ))) (u : Mapping PageOfKind)
        → place_of u p.pid ≡ Some (Some (Leaf p.page)) → run ≡ [] → is_among p.pid (route_pids rs) ≡ false
        → AreSeen Leaf (all_taken u (route_pids rs)) (seen_of rs) ws → AreSeen Leaf (all_taken u (route_pids rs)) (seen_of rs) (updated s p run ∷ ws)
    same_there p run rs ws u k e n a =
        subst (λ (r : Changes). AreSeen Leaf (all_taken u (route_pids rs)) (seen_of rs) (updated s p r ∷ ws)) (sym e) (home_seen p (taken_others u (route_pids rs) p.pid n ∙ k) a)

    seen_where : (p : Placed (List ℕ)) (places : List ℕ) (run : Changes) (rs : List Route) (ws : List (Updated (List ℕ))) (u : Mapping PageOfKind)
        → place_of t p.pid ≡ Some (Some (Leaf p.page)) → place_of u p.pid ≡ Some (Some (Leaf p.page)) → run ≡ net_run (entries p) (commands_at cs places) → is_among p.pid (route_pids (filter w rs)) ≡ false
        → AreSeen Leaf (all_taken u (route_pids (filter w rs))) (seen_of (filter w rs)) ws → AreSeen Leaf (all_taken (with_place u p.pid None) (route_pids (filter w rs))) (seen_of (filter w rs)) ws
        → (let r : Route = record { pid = p.pid; places = places } in (b : Bool) → w r ≡ b → AreSeen Leaf (all_taken u (route_pids (filter w (r ∷ rs)))) (seen_of (filter w (r ∷ rs))) (updated s p run ∷ ws))
    seen_where p places run rs ws u h k e n a b false is =
        rw is (same_there p run (filter w rs) ws u k (e ∙ quiet (record { pid = p.pid; places = places }) is (entries p)) n a)
    seen_where p places run rs ws u h k e n a b true is =
        rw is (subst (λ (x : Updated (List ℕ)). AreSeen Leaf (all_taken (with_place u p.pid None) (route_pids (filter w rs))) (page_seen Leaf x ∷ seen_of (filter w rs)) (updated s p run ∷ ws)) (sym (made_is p places run h (sym e)))
        (updated_seen (updated s p run) (first_taken u p.pid (route_pids (filter w rs))) b))

    seen_by : (p : Placed (List ℕ)) (places : List ℕ) (run : Changes) (rs : List Route) (ws : List (Updated (List ℕ))) (u : Mapping PageOfKind)
        → place_of t p.pid ≡ Some (Some (Leaf p.page)) → place_of u p.pid ≡ Some (Some (Leaf p.page)) → run ≡ net_run (entries p) (commands_at cs places) → is_among p.pid (route_pids (filter w rs)) ≡ false
        → AreSeen Leaf (all_taken u (route_pids (filter w rs))) (seen_of (filter w rs)) ws → AreSeen Leaf (all_taken (with_place u p.pid None) (route_pids (filter w rs))) (seen_of (filter w rs)) ws
        → (let r : Route = record { pid = p.pid; places = places } in AreSeen Leaf (all_taken u (route_pids (filter w (cond (has_places r) (r ∷ rs) rs)))) (seen_of (filter w (cond (has_places r) (r ∷ rs) rs))) (updated s p run ∷ ws))
    seen_by p [] run rs ws u h k e n a b = same_there p run (filter w rs) ws u k e n a
    seen_by p (i ∷ is) run rs ws u h k e n a b = seen_where p (i ∷ is) run rs ws u h k e n a b (w (record { pid = p.pid; places = i ∷ is })) refl

    -- ---- all of them

    module _ (m : Pairs) (rising : IsRising m) where
      -- from a page on, if the leaves are in the table before, and in the table from which others were checked out
      pub seen_from : (p : Placed (List ℕ)) (ps : List (Placed (List ℕ))) (left : Changes) (u : Mapping PageOfKind) → Tiled (p ∷ ps) None → IsLeft m (net_run m cs) p ps left → AreHome Leaf t (p ∷ ps) → AreHome Leaf u (p ∷ ps) → Distinct (pids (p ∷ ps))
          → AreSeen Leaf (all_taken u (route_pids (filter w (routes (p ∷ ps) cs)))) (seen_of (filter w (routes (p ∷ ps) cs))) (updated_leaves s left (p ∷ ps))
      seen_from p [] left u tiled l h k d =
          seen_by p (places_within p.page.low None cs) left [] [] u h.0 k.0 (last_part m cs rising p left tiled l ∙ ap (λ (ds : List (Command Global)). net_run (entries p) ds) (sym (commands_within p.page.low None cs))) refl none_seen none_seen
      seen_from p (q ∷ qs) left u tiled l h k d =
          let rest : IsLeft m (net_run m cs) q qs (part_from q.page.low left) = later_part m (net_run m cs) p q qs left tiled l in
          let apart = all_passing w (λ n. n ≢ p.pid) (routes (q ∷ qs) cs) (all_routed (λ n. n ≢ p.pid) (q ∷ qs) cs d.0) in
          seen_by p (places_within p.page.low (Some q.page.low) cs) (part_below q.page.low left) (routes (q ∷ qs) cs) (updated_leaves s (part_from q.page.low left) (q ∷ qs)) u h.0 k.0
          (first_part m cs rising p q qs left tiled l ∙ ap (λ (ds : List (Command Global)). net_run (entries p) ds) (sym (commands_within p.page.low (Some q.page.low) cs)))
          (not_among p.pid (route_pids (filter w (routes (q ∷ qs) cs))) apart)
          (seen_from q qs (part_from q.page.low left) u tiled.1 rest h.1 k.1 d.1)
          (seen_from q qs (part_from q.page.low left) (with_place u p.pid None) tiled.1 rest h.1 (still_there u p.pid (q ∷ qs) d.0 k.1) d.1)
