-- The next level of a climb: the parents, after the runs of their terms.
use Rattle.std.specs.Prelude.{◌≡◌, ◌≢◌, ℕ, ◌+◌, ◌<◌, true, false, nat_eq, List, [], ◌∷◌, ◌++◌, map, flat_map, length, Option, Some, None, is_some}
use Rattle.std.proofs.Common.{refl, sym, ap, ◌∙◌, subst, arith}
use Rattle.std.specs.List.{AllByRecursion}
use Rattle.std.proofs.lemmas.Bool.{eqb-true, or_from, false_from_ne_true}
use Rattle.std.proofs.lemmas.List.{length-map}
use Rattle.keys.specs.declared.settings.Settings.{Settings}
use Rattle.index_page.specs.Page.{Page, PageOfKind}
use Rattle.index_page.specs.Page.PageOfKind.{Index}
use Rattle.index_page.proofs.ListLemmas.{all-append, all_apart}
use Rattle.mapping.specs.Levels.{Placed, name, names, pids, all_pids, first_pid, top_pid}
use Rattle.mapping.specs.FreshPids.{is_among, unused, IsNeverUnused}
use Rattle.mapping.specs.Proper.{IsParentOf, Stacked, Distinct, AreRisingPids}
use Rattle.mapping.specs.Table.{Mapping, pids_in_use, place_of, with_rooms, fresh_pids}
use Rattle.mapping.specs.TreeInMemory.{TreeInMemory}
use Rattle.mapping.proofs.LevelLemmas.{same_pids}
use Rattle.mapping.proofs.PidLemmas.{all_among}
use Rattle.mapping.proofs.TileLemmas.{Separators, next_low-same, next_low-parents}
use Rattle.page_runs.specs.TermWork.{index_made}
use Rattle.page_runs.specs.Updated.{Updated}
use Rattle.split_plan.specs.Change.{changes, family_changes, fresh_of, all_fresh}
use Rattle.split_plan.specs.Terms.{terms}
use Rattle.split_plan.specs.UpdatedLevel.{updated_parents, placed_of}
use Rattle.split_plan.proofs.RunLemmas.{names-updated_parents}
use Rattle.split_plan.proofs.WorkedLemmas.{tiled-updated_parents}
use Rattle.climb_plan.specs.Changing.{SeenPage, page_seen, AreHome, Changing, changing_families, parents_of, changing_groups, changing_changes}
use Rattle.climb_plan.specs.Climb.{families}
use Rattle.climb_plan.specs.Installing.{parent_held, AreParentsHome}
use Rattle.climb_plan.specs.Level.{parent_pids, IsLevel, next_tree}
use Rattle.climb_plan.proofs.BridgeDrawn.{drawn_places}
use Rattle.climb_plan.proofs.BridgeParents.{term_parents, termed_made, termed_held, parents_can_be_taken}
use Rattle.climb_plan.proofs.BridgeTables.{AreDrawn, taken_others, taken_away, ArePlaced, taken_pids, drawn_others, logs_after}
use Rattle.climb_plan.proofs.ChangingGroups.{alike_level, fresh-changing_changes}
use Rattle.climb_plan.proofs.Families.{parents_termed}
use Rattle.climb_plan.proofs.TermRuns.{all_terms_given, length-runs, all_termed, AreHomeBut, seen_after_runs}
use Rattle.climb_plan.proofs.ParentRuns.{runs_by_parent}
use Rattle.climb_plan.proofs.LevelParts.{level_of}

-- ---- numbers that are distinct

distinct_parts : (ms ns : List ℕ) → Distinct (ms ++ ns) → Distinct ms × Distinct ns
distinct_parts [] ns d = (tt, d)
distinct_parts (m ∷ ms) ns d =
    let rest = distinct_parts ms ns d.1 in
    (((all_apart (λ k. k ≢ m) ms ns d.0).0, rest.0), rest.1)

not_among : (n : ℕ) (ms : List ℕ) → AllByRecursion (λ m. m ≢ n) ms → is_among n ms ≡ false
not_among n [] d = refl
not_among n (m ∷ ms) d = or_from (nat_eq n m) (is_among n ms) (false_from_ne_true (nat_eq n m) (λ e. d.0 (sym (eqb-true n m e)))) (not_among n ms d.1)

-- ---- levels with the same separators

module _ {V W : Type 0} where
  first_pid-same : (ps : List (Placed V)) (qs : List (Placed W)) → names ps ≡ names qs → first_pid ps ≡ first_pid qs
  first_pid-same [] [] e = refl
  first_pid-same [] (q ∷ qs) e = absurd (cc)
  first_pid-same (p ∷ ps) [] e = absurd (cc)
  first_pid-same (p ∷ ps) (q ∷ qs) e = let f : name p ≡ name q = cc in ap (λ (n : List ℕ × ℕ). n.1) f

  pub top_pid-same : (ps : List (Placed V)) (qs : List (Placed W)) (ups : List (List (Placed ℕ))) → names ps ≡ names qs → top_pid ps ups ≡ top_pid qs ups
  top_pid-same ps qs [] e = first_pid-same ps qs e
  top_pid-same ps qs (up ∷ ups) e = refl

  pub stacked-same : (ps : List (Placed V)) (qs : List (Placed W)) (ups : List (List (Placed ℕ))) → names ps ≡ names qs → Stacked qs ups → Stacked ps ups
  stacked-same ps qs [] e h = sym (length-map ps name) ∙ ap (λ (ns : Separators). length ns) e ∙ length-map qs name ∙ h
  stacked-same ps qs (up ∷ ups) e h = (record { linked = h.0.linked ∙ sym e; headed = h.0.headed; tiled = h.0.tiled }, h.1)

-- ---- parents of families that change

module _ {V : Type 0} where
  pids-parents_of : (chs : List (Changing V)) → pids (parents_of chs) ≡ parent_pids chs
  pids-parents_of [] = refl
  pids-parents_of (c ∷ chs) = ap (λ (ns : List ℕ). c.parent.pid ∷ ns) (pids-parents_of chs)

-- a fact on the pids of pages
by_pids : (P : ℕ → Type 0) (ps : List (Placed ℕ)) → AllByRecursion P (pids ps) → AllByRecursion (λ p. P p.pid) ps
by_pids P [] h = tt
by_pids P (p ∷ ps) h = (h.0, by_pids P ps h.1)

to_pids : (P : ℕ → Type 0) (ps : List (Placed ℕ)) → AllByRecursion (λ p. P p.pid) ps → AllByRecursion P (pids ps)
to_pids P [] h = tt
to_pids P (p ∷ ps) h = (h.0, to_pids P ps h.1)

-- ---- places

module _ (before after : Mapping PageOfKind) where
  home_each : (ps : List (Placed ℕ)) → AllByRecursion (λ n. place_of after n ≡ place_of before n) (pids ps) → AreHome Index before ps → AreHome Index after ps
  home_each [] s h = tt
  home_each (p ∷ ps) s h = (s.0 ∙ h.0, home_each ps s.1 h.1)

  home_above : (ups : List (List (Placed ℕ))) → AllByRecursion (λ n. place_of after n ≡ place_of before n) (flat_map pids ups) → AllByRecursion (AreHome Index before) ups → AllByRecursion (AreHome Index after) ups
  home_above [] s h = tt
  home_above (up ∷ ups) s h =
      let a = all_apart (λ n. place_of after n ≡ place_of before n) (pids up) (flat_map pids ups) s in
      (home_each up a.0 h.0, home_above ups a.1 h.1)

-- ---- the next level

module _ {V : Type 0} (s : Settings) (of : Page V → PageOfKind) (t : TreeInMemory) (xs : List SeenPage) (ws : List (Updated V)) (ps : List (Placed ℕ)) (ups : List (List (Placed ℕ))) (used : List ℕ) (i : ℕ) where
  -- the parents of families that change
  abbrev pub changing_here : List (Changing V)
  changing_here = changing_families ps ws

  -- how many new pages there are
  abbrev pub new_here : ℕ
  new_here = length (fresh_of (changes s used i (changing_groups changing_here)))

  -- the tree after pids for them were allocated, and these parents checked out
  abbrev pub tree_here : TreeInMemory
  tree_here = next_tree t new_here (parent_pids changing_here)

  -- the runs that the parents of a level get, and all parents after that
  abbrev pub runs_here : List (List (List ℕ × Option ℕ))
  runs_here = map terms (family_changes s used i (families ps ws))

  abbrev pub parents_here : List (Updated ℕ)
  parents_here = updated_parents s ps runs_here

  -- those that are seen
  abbrev pub seen_here : List SeenPage
  seen_here = map (page_seen Index) (updated_parents s (parents_of changing_here) (map terms (changing_changes s used i changing_here)))

  module _ (z : 0 < s.fan) (h : IsLevel of t xs (level_of ws (ps ∷ ups) used i)) where
    abbrev rooms : Mapping PageOfKind
    rooms = with_rooms t.table (fresh_pids (pids_in_use t.table) new_here)

    drawn : AreDrawn t.table rooms new_here
    drawn = drawn_places new_here t.table h.rising

    abbrev taken : List ℕ
    taken = parent_pids changing_here

    upper_distinct : Distinct (all_pids ps ups)
    upper_distinct = (distinct_parts (pids (placed_of ws)) (all_pids ps ups) h.distinct).1

    upper_old : AllByRecursion (IsNeverUnused used) (all_pids ps ups)
    upper_old = (all_apart (IsNeverUnused used) (pids (placed_of ws)) (all_pids ps ups) h.old).1

    parents_old : AllByRecursion (IsNeverUnused used) (pids ps)
    parents_old = (all_apart (IsNeverUnused used) (pids ps) (flat_map pids ups) upper_old).0

    -- each parent has its page, after the pids were allocated
    home_in_rooms : AllByRecursion (λ p. place_of rooms p.pid ≡ Some (Some (Index p.page))) ps
    home_in_rooms = each ps parents_old h.home.0
      where
        each : (qs : List (Placed ℕ)) → AllByRecursion (IsNeverUnused used) (pids qs) → AreHome Index t.table qs → AreHome Index rooms qs
        each [] o k = tt
        each (q ∷ qs) o k = (drawn_others t.table rooms new_here used i q.pid drawn h.drawn o.0 ∙ k.0, each qs o.1 k.1)

    -- and so has each that gets a run
    termed_in_rooms : AreHome Index rooms (parents_of changing_here)
    termed_in_rooms = all_termed (λ p. place_of rooms p.pid ≡ Some (Some (Index p.page))) (all_terms_given s used i ps ws) home_in_rooms

    placed_in_rooms : ArePlaced rooms taken
    placed_in_rooms =
        let all : AllByRecursion (λ p. is_some (place_of rooms p.pid) ≡ true) ps = some ps home_in_rooms in
        let termed : AllByRecursion (λ p. is_some (place_of rooms p.pid) ≡ true) (parents_of changing_here) = all_termed (λ p. is_some (place_of rooms p.pid) ≡ true) (all_terms_given s used i ps ws) all in
        subst (λ (ns : List ℕ). ArePlaced rooms ns) (pids-parents_of changing_here) (to_pids (λ n. is_some (place_of rooms n) ≡ true) (parents_of changing_here) termed)
      where
        some : (qs : List (Placed ℕ)) → AreHome Index rooms qs → AllByRecursion (λ p. is_some (place_of rooms p.pid) ≡ true) qs
        some [] k = tt
        some (q ∷ qs) k = (ap (λ (o : Option (Option PageOfKind)). is_some o) k.0, some qs k.1)

    -- the parents that get a run are checked out, the others are in the table
    parents_away : AllByRecursion (λ p. place_of tree_here.table p.pid ≡ Some None) (parents_of changing_here)
    parents_away =
        by_pids (λ n. place_of tree_here.table n ≡ Some None) (parents_of changing_here) (subst (λ (ns : List ℕ). AllByRecursion (λ n. place_of tree_here.table n ≡ Some None) ns) (sym (pids-parents_of changing_here)) (each taken (all_among taken)))
      where
        each : (ns : List ℕ) → AllByRecursion (λ n. is_among n taken ≡ true) ns → AllByRecursion (λ n. place_of tree_here.table n ≡ Some None) ns
        each [] k = tt
        each (n ∷ ns) k = (taken_away rooms taken n k.0, each ns k.1)

    parents_home : AreHomeBut Index tree_here.table (parents_of changing_here) ps
    parents_home = each ps home_in_rooms
      where
        each : (qs : List (Placed ℕ)) → AreHome Index rooms qs → AreHomeBut Index tree_here.table (parents_of changing_here) qs
        each [] k = tt
        each (q ∷ qs) k =
            (λ e. taken_others rooms taken q.pid (ap (λ (ns : List ℕ). is_among q.pid ns) (sym (pids-parents_of changing_here)) ∙ e) ∙ k.0, each qs k.1)

    -- the levels above stay
    not_taken : (n : ℕ) → AllByRecursion (λ m. m ≢ n) (pids ps) → is_among n taken ≡ false
    not_taken n d =
        let termed : AllByRecursion (λ p. p.pid ≢ n) (parents_of changing_here) = all_termed (λ p. p.pid ≢ n) (all_terms_given s used i ps ws) (by_pids (λ m. m ≢ n) ps d) in
        not_among n taken (subst (λ (ns : List ℕ). AllByRecursion (λ m. m ≢ n) ns) (pids-parents_of changing_here) (to_pids (λ m. m ≢ n) (parents_of changing_here) termed))

    others_stay : (ms ns : List ℕ) → ((n : ℕ) → AllByRecursion (λ m. m ≢ n) ms → is_among n taken ≡ false) → Distinct (ms ++ ns) → AllByRecursion (IsNeverUnused used) ns → AllByRecursion (λ n. place_of tree_here.table n ≡ place_of t.table n) ns
    others_stay ms [] k d o = tt
    others_stay ms (n ∷ ns) k d o =
        let a = apart ms n ns d in
        (taken_others rooms taken n (k n a.0) ∙ drawn_others t.table rooms new_here used i n drawn h.drawn o.0, others_stay ms ns k a.1 o.1)
      where
        apart : (ms : List ℕ) (n : ℕ) (ns : List ℕ) → Distinct (ms ++ n ∷ ns) → AllByRecursion (λ m. m ≢ n) ms × Distinct (ms ++ ns)
        apart [] n ns d = (tt, d.1)
        apart (m ∷ ms) n ns d =
            let rest = apart ms n ns d.1 in
            let parts = all_apart (λ k. k ≢ m) ms (n ∷ ns) d.0 in
            (((λ e. parts.1.0 (sym e)), rest.0), (all-append (λ k. k ≢ m) ms ns parts.0 parts.1.1, rest.1))

    above_stay : AllByRecursion (λ n. place_of tree_here.table n ≡ place_of t.table n) (flat_map pids ups)
    above_stay = others_stay (pids ps) (flat_map pids ups) not_taken upper_distinct (all_apart (IsNeverUnused used) (pids ps) (flat_map pids ups) upper_old).1

    same_in_use : pids_in_use tree_here.table ≡ pids_in_use rooms
    same_in_use = taken_pids rooms taken drawn.rising placed_in_rooms

    -- there are as many new pages as the plan has
    pub count : new_here ≡ length (all_fresh (family_changes s used i (families ps ws)))
    count = ap (λ (qs : List (Placed V)). length qs) (sym ((alike_level s used i ps ws).fresh ∙ fresh-changing_changes s used i changing_here))

    next_drawn : (m : ℕ) → unused (pids_in_use tree_here.table) m ≡ unused used ((i + length (all_fresh (family_changes s used i (families ps ws)))) + m)
    next_drawn m =
        let a : i + (new_here + m) ≡ (i + length (all_fresh (family_changes s used i (families ps ws)))) + m = (let e = count in omega arith) in
        ap (λ (ns : List ℕ). unused ns m) same_in_use ∙ drawn.next m ∙ h.drawn (new_here + m) ∙ ap (λ (k : ℕ). unused used k) a

    -- ---- the parents that are checked out

    runs_fit : length (map terms (changing_changes s used i changing_here)) ≡ length (parents_of changing_here)
    runs_fit = length-runs (all_terms_given s used i ps ws)

    -- after the pids were allocated, the parents can be checked out
    pub can_be_taken : AreParentsHome rooms taken
    can_be_taken =
        subst (λ (ns : List ℕ). AreParentsHome rooms ns) (pids-parents_of changing_here) (parents_can_be_taken rooms (all_terms_given s used i ps ws) (distinct_parts (pids ps) (flat_map pids ups) upper_distinct).0 termed_in_rooms)

    -- each with the run of its terms
    abbrev pub termed_here : List (ℕ × List (List ℕ × Option ℕ))
    termed_here = runs_by_parent taken (map terms (changing_changes s used i changing_here))

    pub taken_here : map (λ e. e.0) termed_here ≡ taken
    taken_here = term_parents taken (map terms (changing_changes s used i changing_here)) (runs_fit ∙ length-map changing_here (λ (c : Changing V). c.parent) ∙ sym (length-map changing_here (λ (c : Changing V). c.parent.pid)))

    -- the results are those of the plan
    pub made_here : map (λ e. index_made s (parent_held rooms e)) termed_here ≡ updated_parents s (parents_of changing_here) (map terms (changing_changes s used i changing_here))
    made_here =
        let runs : List (List (List ℕ × Option ℕ)) = map terms (changing_changes s used i changing_here) in
        ap (λ (ns : List ℕ). map (λ e. index_made s (parent_held rooms e)) (runs_by_parent ns runs)) (sym (pids-parents_of changing_here)) ∙ termed_made rooms s (parents_of changing_here) runs termed_in_rooms runs_fit

    -- and their inputs are the original pages
    pub held_here : map {B = ℕ × PageOfKind} (λ x. (x.pid, x.page)) (map (parent_held rooms) termed_here) ≡ map {B = ℕ × PageOfKind} (λ q. (q.pid, Index q.page)) (parents_of changing_here)
    held_here =
        let runs : List (List (List ℕ × Option ℕ)) = map terms (changing_changes s used i changing_here) in
        ap (λ (ns : List ℕ). map {B = ℕ × PageOfKind} (λ x. (x.pid, x.page)) (map (parent_held rooms) (runs_by_parent ns runs))) (sym (pids-parents_of changing_here)) ∙ termed_held rooms (parents_of changing_here) runs termed_in_rooms runs_fit

    -- ---- the next level

    -- the parents after their runs are the next level
    pub next_level : IsLevel Index tree_here seen_here (level_of parents_here ups used (i + length (all_fresh (family_changes s used i (families ps ws)))))
    next_level =
        let up : IsParentOf (placed_of ws) ps = h.stacked.0 in
        let named : names (placed_of parents_here) ≡ names ps = names-updated_parents s ps runs_here in
        let same : pids (placed_of parents_here) ≡ pids ps = same_pids (placed_of parents_here) ps named in
        let all : all_pids ps ups ≡ all_pids (placed_of parents_here) ups = ap (λ (ns : List ℕ). ns ++ flat_map pids ups) (sym same) in
        record {
          seen = seen_after_runs s Index tree_here.table (all_terms_given s used i ps ws) (distinct_parts (pids ps) (flat_map pids ups) upper_distinct).0 parents_home parents_away;
          tiled = tiled-updated_parents s ps runs_here None up.tiled (parents_termed s used i ps ws z up.linked up.headed h.tiled).0;
          first = next_low-same (placed_of parents_here) ps None named ∙ sym (next_low-parents ps (placed_of ws) up.linked up.headed) ∙ h.first;
          stacked = stacked-same (placed_of parents_here) ps ups named h.stacked.1;
          home = home_above t.table tree_here.table ups above_stay h.home.1;
          root = h.root ∙ sym (top_pid-same (placed_of parents_here) ps ups named);
          distinct = subst (λ (ns : List ℕ). Distinct ns) all upper_distinct;
          old = subst (λ (ns : List ℕ). AllByRecursion (IsNeverUnused used) ns) all upper_old;
          rising = subst (λ (ns : List ℕ). AreRisingPids ns) (sym same_in_use) drawn.rising;
          drawn = next_drawn;
          logs = logs_after t.table rooms new_here taken drawn h.logs;
        }
