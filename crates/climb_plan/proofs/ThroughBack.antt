-- If the climb of the levels above fails, a level restores its tree.
use Rattle.std.specs.Prelude.{◌≡◌, ℕ, ◌+◌, ◌-◌, ◌<◌, List, [], ◌∷◌, ◌++◌, true, map, flat_map, drop, length, Some, None}
use Rattle.std.proofs.Common.{refl, sym, ap, ◌∙◌, subst, arith}
use Rattle.std.specs.List.{AllByRecursion}
use Rattle.std.specs.Map.{keys_of}
use Rattle.keys.specs.declared.settings.Settings.{Settings}
use Rattle.index_page.specs.Page.{Page, PageOfKind}
use Rattle.index_page.specs.Page.PageOfKind.{Index}
use Rattle.index_page.proofs.ListLemmas.{all_apart}
use Rattle.mapping.specs.FreshPids.{is_among, IsNeverUnused}
use Rattle.mapping.specs.Levels.{Placed, pids, all_pids}
use Rattle.mapping.specs.Proper.{Distinct, AreRisingPids}
use Rattle.mapping.specs.Table.{Mapping, pids_in_use, place_of, with_rooms, fresh_pids, freed_all, IsOldWithoutPlace}
use Rattle.mapping.specs.TreeInMemory.{TreeInMemory}
use Rattle.mapping.proofs.LevelLemmas.{pids-append}
use Rattle.mapping.proofs.PidLemmas.{all_among}
use Rattle.page_runs.specs.TermWork.{IndexUpdate}
use Rattle.page_runs.specs.Updated.{Updated}
use Rattle.split_plan.proofs.PidLemmas.{distinct_renewed}
use Rattle.split_plan.specs.Change.{Change, changes, fresh_of}
use Rattle.split_plan.specs.UpdatedLevel.{placed_of}
use Rattle.climb_plan.specs.Changing.{SeenPage, AreHome, Changing, changing_families, changing_groups, parents_of}
use Rattle.climb_plan.specs.Climb.{LevelPlan}
use Rattle.climb_plan.specs.Installing.{AreAway, all_put, all_taken}
use Rattle.climb_plan.specs.Level.{IsLevel, IsChanged, parent_pids, remade_of}
use Rattle.climb_plan.specs.LevelSteps.{SomeChildren, Working, IsWorkedOn}
use Rattle.climb_plan.specs.Rewriting.{Remade}
use Rattle.climb_plan.proofs.BridgeDrawn.{drawn_places}
use Rattle.climb_plan.proofs.BridgeNext.{can_be_taken}
use Rattle.climb_plan.proofs.BridgeTables.{AreDrawn, drawn_others}
use Rattle.climb_plan.proofs.ChangedRooms.{shifted, given_back}
use Rattle.climb_plan.proofs.InstallingLemmas.{away-all_taken, put_back_is_before}
use Rattle.climb_plan.proofs.ThroughClimb.{children_here}
use Rattle.climb_plan.proofs.ThroughGroups.{draw_all, fresh_numbers}
use Rattle.climb_plan.proofs.TermRuns.{all_termed, all_terms_given}
use Rattle.climb_plan.proofs.LevelParts.{level_of}

-- what is held of parents, and their original pages
abbrev pub held_pages : List IndexUpdate → List (ℕ × PageOfKind)
held_pages ds = map {B = ℕ × PageOfKind} (λ d. (d.held.pid, d.held.page)) ds

abbrev pub index_pages : List (Placed ℕ) → List (ℕ × PageOfKind)
index_pages qs = map {B = ℕ × PageOfKind} (λ q. (q.pid, Index q.page)) qs

pids_held : (ds : List IndexUpdate) → map (λ d. d.held.pid) ds ≡ keys_of (held_pages ds)
pids_held [] = refl
pids_held (d ∷ ds) = ap (λ (ns : List ℕ). d.held.pid ∷ ns) (pids_held ds)

module _ {V : Type 0} where
  keys_parents : (chs : List (Changing V)) → keys_of (index_pages (parents_of chs)) ≡ parent_pids chs
  keys_parents [] = refl
  keys_parents (c ∷ chs) = ap (λ (ns : List ℕ). c.parent.pid ∷ ns) (keys_parents chs)

home_pairs : (t : Mapping PageOfKind) (qs : List (Placed ℕ)) → AreHome Index t qs → AllByRecursion (λ e. place_of t e.0 ≡ Some (Some e.1)) (index_pages qs)
home_pairs t [] h = tt
home_pairs t (q ∷ qs) h = (h.0, home_pairs t qs h.1)

module _ {V : Type 0} (s : Settings) (fan : 1 < s.fan) (of : Page V → PageOfKind) (t ready : TreeInMemory) (xs : List SeenPage) (ws : List (Updated V)) (ps : List (Placed ℕ)) (ups : List (List (Placed ℕ))) (used : List ℕ) (i : ℕ) (groups : List Remade) (parents : List IndexUpdate)
    (h : IsLevel of t xs (level_of ws (ps ∷ ups) used i)) (c : IsChanged s of t ready (level_of ws ups used i) ps groups parents) where
  abbrev taken_here : List ℕ
  taken_here = parent_pids (changing_families ps ws)

  abbrev count_here : ℕ
  count_here = length (fresh_of (changes s used i (changing_groups (changing_families ps ws))))

  abbrev pub rooms_here : Mapping PageOfKind
  rooms_here = with_rooms t.table (fresh_pids (pids_in_use t.table) count_here)

  drawn_here : AreDrawn t.table rooms_here count_here
  drawn_here = drawn_places count_here t.table h.rising

  taken_distinct : Distinct taken_here
  taken_distinct = let z : 0 < s.fan = omega arith in (can_be_taken s of t xs ws ps ups used i z h).1

  parents_in_rooms : AreHome Index rooms_here (parents_of (changing_families ps ws))
  parents_in_rooms =
      let never : AllByRecursion (IsNeverUnused used) (pids ps) = (all_apart (IsNeverUnused used) (pids ps) (flat_map pids ups) (all_apart (IsNeverUnused used) (pids (placed_of ws)) (all_pids ps ups) h.old).1).0 in
      all_termed (λ p. place_of rooms_here p.pid ≡ Some (Some (Index p.page))) (all_terms_given s used i ps ws) (each ps never h.home.0)
    where
      each : (qs : List (Placed ℕ)) → AllByRecursion (IsNeverUnused used) (pids qs) → AreHome Index t.table qs → AreHome Index rooms_here qs
      each [] o k = tt
      each (q ∷ qs) o k = (drawn_others t.table rooms_here count_here used i q.pid drawn_here h.drawn o.0 ∙ k.0, each qs o.1 k.1)

  held_keys : keys_of (held_pages parents) ≡ taken_here
  held_keys = ap (λ (es : List (ℕ × PageOfKind)). keys_of es) c.held ∙ keys_parents (changing_families ps ws)

  -- the parents are checked out
  pub parents_are_away : AreAway ready.table (map (λ d. d.held.pid) parents)
  parents_are_away =
      let away : AreAway (all_taken rooms_here taken_here) taken_here = (away-all_taken rooms_here taken_here taken_distinct, taken_distinct) in
      subst (λ (u : TreeInMemory). AreAway u.table (map (λ d. d.held.pid) parents)) (sym c.tree) (subst (λ (ns : List ℕ). AreAway (all_taken rooms_here taken_here) ns) (sym (pids_held parents ∙ held_keys)) away)

  -- after they are put back, the table has only the allocated pids in addition to what it had
  pub parents_are_back : all_put ready.table (held_pages parents) ≡ rooms_here
  parents_are_back =
      let es : List (ℕ × PageOfKind) = index_pages (parents_of (changing_families ps ws)) in
      ap (λ (u : TreeInMemory). all_put u.table (held_pages parents)) c.tree
      ∙ ap (λ (ds : List (ℕ × PageOfKind)). all_put (all_taken rooms_here taken_here) ds) c.held
      ∙ ap (λ (ns : List ℕ). all_put (all_taken rooms_here ns) es) (sym (keys_parents (changing_families ps ws)))
      ∙ put_back_is_before rooms_here es drawn_here.rising (subst (λ (ns : List ℕ). Distinct ns) (sym (keys_parents (changing_families ps ws))) taken_distinct) (home_pairs rooms_here (parents_of (changing_families ps ws)) parents_in_rooms)

  -- the allocated pids
  fresh_each : (cs : List (Change V)) → flat_map (λ r. r.fresh) (map (remade_of of) cs) ≡ pids (fresh_of cs)
  fresh_each [] = refl
  fresh_each (d ∷ cs) = ap (λ (ns : List ℕ). pids (drop 1 d.pages) ++ ns) (fresh_each cs) ∙ sym (pids-append (drop 1 d.pages) (fresh_of cs))

  pub fresh_are_drawn : flat_map (λ r. r.fresh) groups ≡ fresh_pids (pids_in_use t.table) count_here
  fresh_are_drawn =
      let e : i ≡ i + 0 = omega arith in
      ap (λ (rs : List Remade). flat_map (λ r. r.fresh) rs) c.groups
      ∙ fresh_each (changes s used i (changing_groups (changing_families ps ws)))
      ∙ fresh_numbers s used i (changing_groups (changing_families ps ws))
      ∙ sym (shifted used (pids_in_use t.table) i 0 i count_here e h.drawn)

  all_away : (ns : List ℕ) → AllByRecursion (λ n. is_among n (fresh_pids (pids_in_use t.table) count_here) ≡ true) ns → AllByRecursion (λ n. place_of rooms_here n ≡ Some None) ns
  all_away [] a = tt
  all_away (n ∷ ns) a = (drawn_here.away n a.0, all_away ns a.1)

  -- their places are empty
  pub fresh_are_away : (back : TreeInMemory) → back ≡ record ready { table = all_put ready.table (held_pages parents) } → AreAway back.table (flat_map (λ r. r.fresh) groups)
  fresh_are_away back q =
      let ns : List ℕ = fresh_pids (pids_in_use t.table) count_here in
      let away : AreAway rooms_here ns = (all_away ns (all_among ns), distinct_renewed (draw_all (pids_in_use t.table) 0 count_here) tt tt) in
      let table : back.table ≡ rooms_here = ap (λ (u : TreeInMemory). u.table) q ∙ parents_are_back in
      subst (λ (u : Mapping PageOfKind). AreAway u (flat_map (λ r. r.fresh) groups)) (sym table) (subst (λ (ms : List ℕ). AreAway rooms_here ms) (sym fresh_are_drawn) away)

-- ---- in the form of the code

module _ {V : Type 0} {of : Page V → PageOfKind} {s : Settings} {w : Working} {xs : List SeenPage} {groups : List Remade} (k : IsWorkedOn of s w xs groups)
    {now : TreeInMemory} {held : List IndexUpdate} (stays : now ≡ w.ready) (same : held ≡ w.parents) where
  abbrev l : SomeChildren of w.before xs (w.depth - 1)
  l = children_here k

  abbrev p : LevelPlan V
  p = l.0

  abbrev changed : IsChanged s of w.before w.ready p l.1 groups w.parents
  changed = k.works p l.1 l.2 l.3

  pub refused_away : AreAway now.table (map (λ d. d.held.pid) held)
  refused_away =
      subst (λ (u : TreeInMemory). AreAway u.table (map (λ d. d.held.pid) held)) (sym stays) (subst (λ (ds : List IndexUpdate). AreAway w.ready.table (map (λ d. d.held.pid) ds)) (sym same) (parents_are_away s k.fan of w.before w.ready xs p.updated l.1 p.above p.used p.from groups w.parents l.2 changed))

  module _ {back : TreeInMemory} (put : back ≡ record now { table = all_put now.table (held_pages held) }) {all : List Remade} (handed : all ≡ groups) where
    put_back : back ≡ record w.ready { table = all_put w.ready.table (held_pages w.parents) }
    put_back =
        let make : TreeInMemory → List IndexUpdate → TreeInMemory = λ u ds. record u { table = all_put u.table (held_pages ds) } in
        put ∙ ap (λ (u : TreeInMemory). make u held) stays ∙ ap (λ (ds : List IndexUpdate). make w.ready ds) same

    pub refused_fresh : AreAway back.table (flat_map (λ r. r.fresh) all)
    refused_fresh =
        subst (λ (rs : List Remade). AreAway back.table (flat_map (λ r. r.fresh) rs)) (sym handed) (fresh_are_away s k.fan of w.before w.ready xs p.updated l.1 p.above p.used p.from groups w.parents l.2 changed back put_back)

    pub refused_back : {after : TreeInMemory} → after ≡ record back { table = freed_all back.table (flat_map (λ r. r.fresh) all) }
        → ((m : Mapping PageOfKind) (n : ℕ) → AreRisingPids (pids_in_use m) → IsOldWithoutPlace m → freed_all (with_rooms m (fresh_pids (pids_in_use m) n)) (fresh_pids (pids_in_use m) n) ≡ m) → after ≡ w.before
    refused_back {after = after} r law =
        let t : TreeInMemory = w.before in
        let n : ℕ = length (fresh_of (changes s p.used p.from (changing_groups (changing_families l.1 p.updated)))) in
        let ns : List ℕ = fresh_pids (pids_in_use t.table) n in
        let make : TreeInMemory → Mapping PageOfKind → TreeInMemory = λ u m. record u { table = m } in
        let roomy : back ≡ record t { table = with_rooms t.table ns } = put_back
        ∙ ap (λ (m : Mapping PageOfKind). make w.ready m) (parents_are_back s k.fan of t w.ready xs p.updated l.1 p.above p.used p.from groups w.parents l.2 changed)
        ∙ ap (λ (u : TreeInMemory). make u (with_rooms t.table ns)) changed.tree in
        let drawn : flat_map (λ r. r.fresh) all ≡ ns = ap (λ (rs : List Remade). flat_map (λ r. r.fresh) rs) handed ∙ fresh_are_drawn s k.fan of t w.ready xs p.updated l.1 p.above p.used p.from groups w.parents l.2 changed in
        given_back t back after (flat_map (λ r. r.fresh) all) ns roomy r drawn (law t.table n l.2.rising l.2.logs)
