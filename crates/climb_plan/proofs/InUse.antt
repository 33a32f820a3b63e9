-- Each pid that is outdated was in use before.
use Rattle.std.specs.Prelude.{◌≡◌, ℕ, zero, suc, ◌+◌, ◌<◌, Bool, true, false, cond, ◌||◌, nat_lt, ⊤, List, [], ◌∷◌, ◌++◌, map, flat_map, length}
use Rattle.std.proofs.Common.{refl, sym, ◌∙◌, subst, arith, append-nil, ltb-true}
use Rattle.std.specs.List.{AllByRecursion, filter}
use Rattle.std.specs.Map.{keys_of}
use Rattle.keys.specs.declared.settings.Settings.{Settings}
use Rattle.keys.specs.declared.command.Command.{Command}
use Rattle.keys.specs.Lists.{flat}
use Rattle.index_page.proofs.ListLemmas.{all-append, all_apart}
use Rattle.mapping.specs.Tree.{Tree}
use Rattle.mapping.specs.Levels.{Placed, Levels, joined, names, pids, all_pids, levels_of, contents}
use Rattle.mapping.specs.FreshPids.{is_among}
use Rattle.mapping.specs.Proper.{Stacked, IsProper}
use Rattle.mapping.proofs.LevelLemmas.{same_pids}
use Rattle.mapping.proofs.PidLemmas.{all_among}
use Rattle.mapping.proofs.TableLemmas.{all_pids_hold}
use Rattle.mapping.proofs.TableOfLevels.{holds_among}
use Rattle.page_runs.specs.NetRun.{net_run}
use Rattle.page_runs.specs.Updated.{Updated, is_thin}
use Rattle.split_plan.specs.Cut.{cut}
use Rattle.split_plan.proofs.CutLemmas.{cut-joined}
use Rattle.split_plan.specs.Groups.{groups}
use Rattle.split_plan.proofs.GroupLemmas.{groups-joined}
use Rattle.split_plan.specs.UpdatedLevel.{updated_leaves, updated_parents, placed_of}
use Rattle.split_plan.proofs.RunLemmas.{names-updated_leaves, names-updated_parents}
use Rattle.split_plan.specs.Change.{Change, fresh_pages, replacements, is_rewritten, remade, fresh, changes, family_changes, new_of, fresh_of, all_new, all_fresh, outdated, all_outdated}
use Rattle.split_plan.proofs.ChangeLemmas.{remade_by, joined-fresh_pages}
use Rattle.split_plan.proofs.PidLemmas.{pids-placed_of}
use Rattle.split_plan.specs.Terms.{terms}
use Rattle.climb_plan.specs.Climb.{families, Climbed, grown_levels, climb, is_lone, kept_levels}
use Rattle.climb_plan.specs.Plan.{batch_climb, shrunk_pids, outdated_pids}
use Rattle.climb_plan.proofs.Families.{families-joined}
use Rattle.climb_plan.proofs.Kept.{lone_is_over_one, left, kept_and_left, lone-left}

module _ (P : ℕ → Type 0) where
  -- ---- a property of the pids of pages holds for the outdated ones, and for the first pid of the pages that replace them

  abbrev AllHold : {V : Type 0} → List (Updated V) → Type 0
  AllHold ws = AllByRecursion P (pids (placed_of ws))

  abbrev FirstHolds : {V : Type 0} → List (Placed V) → Type 0
  FirstHolds [] = ⊤
  FirstHolds (p ∷ ps) = P p.pid

  module _ {V : Type 0} where
    hold_apart : (g h : List (Updated V)) → AllHold (g ++ h) → AllHold g × AllHold h
    hold_apart g h a = all_apart P (pids (placed_of g)) (pids (placed_of h)) (subst (λ (ns : List ℕ). AllByRecursion P ns) (pids-placed_of g h) a)

    hold_groups : (f : List (Updated V)) → AllHold f → AllHold (flat (groups is_thin f))
    hold_groups f a = subst (λ (ws : List (Updated V)). AllHold ws) (sym (groups-joined is_thin f)) a

    first-append : (xs ys : List (Placed V)) → FirstHolds xs → FirstHolds ys → FirstHolds (xs ++ ys)
    first-append [] ys a b = b
    first-append (x ∷ xs) ys a b = a

    passed_by : (b : Bool) (w : Updated V) (ws : List (Updated V)) → P w.placed.pid → AllByRecursion P (map (λ v. v.placed.pid) ws) → AllByRecursion P (map (λ v. v.placed.pid) (cond b (w ∷ ws) ws))
    passed_by true w ws h a = (h, a)
    passed_by false w ws h a = a

    hold_passed : (test : Updated V → Bool) (ws : List (Updated V)) → AllHold ws → AllByRecursion P (map (λ v. v.placed.pid) (filter test ws))
    hold_passed test [] a = tt
    hold_passed test (w ∷ ws) a = passed_by (test w) w (filter test ws) a.0 (hold_passed test ws a.1)

    first_replaced : (used : List ℕ) (i : ℕ) (p : Placed V) (bs : List (List (List ℕ × V))) → P p.pid → FirstHolds (replacements used i p bs)
    first_replaced used i p [] h = tt
    first_replaced used i p (b ∷ bs) h = h

    first_by : (b : Bool) (s : Settings) (used : List ℕ) (i : ℕ) (w : Updated V) (ws : List (Updated V)) → P w.placed.pid → FirstHolds (remade_by b s used i w ws)
    first_by true s used i w ws h = first_replaced used i w.placed (cut s.fan (joined (placed_of (w ∷ ws)))) h
    first_by false s used i w ws h = h

    first-remade : (s : Settings) (used : List ℕ) (i : ℕ) (g : List (Updated V)) → AllHold g → FirstHolds (remade s used i g)
    first-remade s used i [] a = tt
    first-remade s used i (w ∷ ws) a = first_by (is_rewritten (w ∷ ws)) s used i w ws a.0

    hold-changes : (s : Settings) (used : List ℕ) (i : ℕ) (gs : List (List (Updated V))) → AllHold (flat gs) → AllByRecursion P (flat_map outdated (changes s used i gs)) × FirstHolds (new_of (changes s used i gs))
    hold-changes s used i [] a = (tt, tt)
    hold-changes s used i (g ∷ gs) a =
        let c : Change V = record { members = g; pages = remade s used i g } in
        let later : List (Change V) = changes s used (i + length (fresh c)) gs in
        let b = hold_apart g (flat gs) a in
        let rest = hold-changes s used (i + length (fresh c)) gs b.1 in
        (all-append P (outdated c) (flat_map outdated later) (hold_passed (λ w. w.replaced || is_rewritten g) g b.0) rest.0, first-append c.pages (new_of later) (first-remade s used i g b.0) rest.1)

    hold-family_changes : (s : Settings) (used : List ℕ) (i : ℕ) (fs : List (List (Updated V))) → AllHold (flat fs) → AllByRecursion P (all_outdated (family_changes s used i fs)) × FirstHolds (all_new (family_changes s used i fs))
    hold-family_changes s used i [] a = (tt, tt)
    hold-family_changes s used i (f ∷ fs) a =
        let cs : List (Change V) = changes s used i (groups is_thin f) in
        let later : List (List (Change V)) = family_changes s used (i + length (fresh_of cs)) fs in
        let b = hold_apart f (flat fs) a in
        let here = hold-changes s used i (groups is_thin f) (hold_groups f b.0) in
        let rest = hold-family_changes s used (i + length (fresh_of cs)) fs b.1 in
        (all-append P (flat_map outdated cs) (all_outdated later) here.0 rest.0, first-append (new_of cs) (all_new later) here.1 rest.1)

  -- ---- lone levels have one page, the first

  abbrev HoldsIfLone : List (Placed ℕ) → Type 0
  HoldsIfLone l = is_lone l ≡ true → AllByRecursion P (pids l)

  lone_first : (l : List (Placed ℕ)) → FirstHolds l → HoldsIfLone l
  lone_first [] h e = tt
  lone_first (p ∷ []) h e = (h, tt)
  lone_first (p ∷ q ∷ ps) h e = absurd (cc)

  -- a level that grows isn't lone
  grown_by : {V : Type 0} (b : Bool) (enough : ℕ) (s : Settings) (used : List ℕ) (i : ℕ) (ps : List (Placed V)) → nat_lt 1 (length ps) ≡ b
      → ((j : ℕ) (up : List (Placed ℕ)) → AllByRecursion HoldsIfLone (grown_levels enough s used j up))
      → AllByRecursion HoldsIfLone (cond b (let up : List (Placed ℕ) = fresh_pages used i (cut s.fan (names ps)) in up ∷ grown_levels enough s used (i + length up) up) [])
  grown_by false enough s used i ps e ih = tt
  grown_by true enough s used i ps e ih =
      let up : List (Placed ℕ) = fresh_pages used i (cut s.fan (names ps)) in
      let several : 1 < length ps = ltb-true 1 (length ps) e in
      (λ lone. absurd (let one : length ps ≡ 1 = lone_is_over_one up ps lone (joined-fresh_pages used i (cut s.fan (names ps)) ∙ cut-joined s.fan (names ps)) in omega arith), ih (i + length up) up)

  hold-grown_levels : {V : Type 0} (enough : ℕ) (s : Settings) (used : List ℕ) (i : ℕ) (ps : List (Placed V)) → AllByRecursion HoldsIfLone (grown_levels enough s used i ps)
  hold-grown_levels zero s used i ps = tt
  hold-grown_levels (suc enough) s used i ps = grown_by (nat_lt 1 (length ps)) enough s used i ps refl (λ j up. hold-grown_levels enough s used j up)

  -- ---- a climb

  record Hold {V : Type 0} (c : Climbed V) : Type 0 where
    pub outdated : AllByRecursion P c.outdated
    pub first : FirstHolds c.tower.level
    pub above : AllByRecursion HoldsIfLone c.tower.above

  hold-climb : {V : Type 0} (s : Settings) (used : List ℕ) (i : ℕ) (ws : List (Updated V)) (olds : List (Placed V)) (ups : List (List (Placed ℕ))) → names (placed_of ws) ≡ names olds → Stacked olds ups → AllByRecursion P (all_pids olds ups) → Hold (climb s used i ws ups)
  hold-climb {V} s used i ws olds [] e o a =
      let css : List (List (Change V)) = changes s used i (ws ∷ []) ∷ [] in
      let top : List (Placed V) = all_new css in
      let own : AllByRecursion P (pids olds) = (all_apart P (pids olds) [] a).0 in
      let mine : AllHold ws = subst (λ (ns : List ℕ). AllByRecursion P ns) (sym (same_pids (placed_of ws) olds e)) own in
      let r = hold-changes s used i (ws ∷ []) (subst (λ (vs : List (Updated V)). AllHold vs) (sym (append-nil ws)) mine) in
      record {
        outdated = all-append P (flat_map outdated (changes s used i (ws ∷ []))) [] r.0 tt;
        first = first-append (new_of (changes s used i (ws ∷ []))) [] r.1 tt;
        above = hold-grown_levels (length top) s used (i + length (all_fresh css)) top;
      }
  hold-climb {V} s used i ws olds (ps ∷ ups) e o a =
      let linked : joined ps ≡ names (placed_of ws) = o.0.linked ∙ sym e in
      let css : List (List (Change V)) = family_changes s used i (families ps ws) in
      let vs : List (Updated ℕ) = updated_parents s ps (map terms css) in
      let j : ℕ = i + length (all_fresh css) in
      let b = all_apart P (pids olds) (flat_map pids (ps ∷ ups)) a in
      let mine : AllHold ws = subst (λ (ns : List ℕ). AllByRecursion P ns) (sym (same_pids (placed_of ws) olds e)) b.0 in
      let r = hold-family_changes s used i (families ps ws) (subst (λ (xs : List (Updated V)). AllHold xs) (sym (families-joined ps ws linked)) mine) in
      let up = hold-climb s used j vs ps ups (names-updated_parents s ps (map terms css)) o.1 b.1 in
      record {
        outdated = all-append P (all_outdated css) (climb s used j vs ups).outdated r.0 up.outdated;
        first = r.1;
        above = (lone_first (climb s used j vs ups).tower.level up.first, up.above);
      }

  -- ---- the levels that are removed with the old root

  lone_hold : (ls : List (List (Placed ℕ))) → AllByRecursion (λ l. is_lone l ≡ true) ls → AllByRecursion HoldsIfLone ls → AllByRecursion P (flat_map pids ls)
  lone_hold [] a h = tt
  lone_hold (l ∷ ls) a h = all-append P (pids l) (flat_map pids ls) (h.0 a.0) (lone_hold ls a.1 h.1)

  hold-shrunk_levels : (ls : List (List (Placed ℕ))) → AllByRecursion HoldsIfLone ls → AllByRecursion P (shrunk_pids ls)
  hold-shrunk_levels ls h =
      let parts = all_apart HoldsIfLone (kept_levels ls) (left ls) (subst (λ (x : List (List (Placed ℕ))). AllByRecursion HoldsIfLone x) (sym (kept_and_left ls)) h) in
      lone_hold (left ls) (lone-left ls) parts.1

-- each outdated pid of a plan was in use
pub outdated_in_use : {A : Type 0} (s : Settings) (t : Tree) (cs : List (Command A)) (pid : ℕ) → IsProper s t → is_among pid (outdated_pids s t cs) ≡ true → is_among pid (keys_of t.pages) ≡ true
outdated_in_use s t cs pid proper h =
    let used : List ℕ = keys_of t.pages in
    let P : ℕ → Type 0 = λ n. is_among n used ≡ true in
    let l : Levels = levels_of t in
    let run : List (List ℕ × _) = net_run (contents t) cs in
    let in_use : AllByRecursion P (all_pids l.level l.above) = all_pids_hold P t.pages (all_among used) l proper.held in
    let r = hold-climb P s used 0 (updated_leaves s run l.level) l.level l.above (names-updated_leaves s run l.level) proper.levels.stacked in_use in
    let all : AllByRecursion P (outdated_pids s t cs) = all-append P (batch_climb s t cs).outdated (shrunk_pids (batch_climb s t cs).tower.above) r.outdated (hold-shrunk_levels P (batch_climb s t cs).tower.above r.above) in
    holds_among P pid (outdated_pids s t cs) all h
