-- If the net run of the commands is empty, the plan is the store itself.
use Rattle.std.specs.Prelude.{◌≡◌, ℕ, zero, suc, pred, ◌+◌, ◌<◌, ◌≤◌, Bool, true, false, nat_eq, List, [], ◌∷◌, ◌++◌, map, flat_map, take, drop, length, Option}
use Rattle.std.proofs.Common.{refl, ap, ◌∙◌, arith}
use Rattle.std.proofs.lemmas.List.{length-map, take-map, drop-map}
use Rattle.std.specs.List.{AllByRecursion}
use Rattle.std.specs.Map.{keys_of, values_of}
use Rattle.std.proofs.lemmas.Bool.{eqb-true}
use Rattle.keys.specs.Step.{map_after_all}
use Rattle.keys.specs.Lists.{flat}
use Rattle.keys.specs.declared.settings.Settings.{Settings}
use Rattle.keys.specs.declared.command.Command.{Command}
use Rattle.keys.specs.declared.command.Command.TheVariants.{Get}
use Rattle.index_page.specs.Page.{PageOfKind}
use Rattle.index_page.specs.Rules.{IsHeaded}
use Rattle.mapping.specs.Tree.{Logged, Tree}
use Rattle.mapping.specs.Levels.{Placed, Levels, entries, joined, name, index_at, levels_below, levels_of, contents, all_pages, by_pid, top_pid, pids}
use Rattle.mapping.specs.Proper.{Stacked, IsBranchedTop, IsProper}
use Rattle.mapping.proofs.SameTree.{root_on_top}
use Rattle.mapping.proofs.TableOfLevels.{by_pid-unique}
use Rattle.mapping.proofs.TileLemmas.{Separators}
use Rattle.page_runs.specs.NetRun.{touched, net_run}
use Rattle.page_runs.specs.Updated.{Updated, is_thin}
use Rattle.split_plan.specs.Groups.{Gathered, gathered, groups}
use Rattle.split_plan.specs.UpdatedLevel.{updated_leaves, updated_parents}
use Rattle.split_plan.specs.Change.{Change, changes, family_changes, new_of, fresh_of, all_new, all_fresh, outdated, all_outdated}
use Rattle.split_plan.specs.Terms.{freed_of, terms}
use Rattle.climb_plan.specs.Changing.{same_page}
use Rattle.climb_plan.specs.Climb.{families, Climbed, climb, is_lone, kept_under, kept_levels}
use Rattle.mapping.specs.Outdate.{outdate_all}
use Rattle.climb_plan.specs.Plan.{batch_climb, planned_levels, planned_tree, shrunk_levels, shrunk_pids, outdated_pids}
use Rattle.climb_plan.proofs.Families.{families_by_length}

-- ---- pages without a run

abbrev pub all_same : {V : Type 0} → List (Placed V) → List (Updated V)
all_same ps = map same_page ps

module _ {V : Type 0} where
  leaves_same : (s : Settings) (ps : List (Placed V)) → updated_leaves s [] ps ≡ all_same ps
  leaves_same s [] = refl
  leaves_same s (p ∷ []) = refl
  leaves_same s (p ∷ q ∷ qs) = ap (λ (ws : List (Updated V)). same_page p ∷ ws) (leaves_same s (q ∷ qs))

  pub parents_same : (s : Settings) (ps : List (Placed V)) (runs : List (List (List ℕ × Option V))) → AllByRecursion (λ run. run ≡ []) runs → updated_parents s ps runs ≡ all_same ps
  parents_same s [] runs h = refl
  parents_same s (p ∷ ps) [] h = ap (λ (ws : List (Updated V)). same_page p ∷ ws) (parents_same s ps [] tt)
  parents_same s (p ∷ ps) (run ∷ runs) h = rw h.0 (ap (λ (ws : List (Updated V)). same_page p ∷ ws) (parents_same s ps runs h.1))

  -- ---- each is a group by itself, and stays

  abbrev alone : List (Placed V) → List (List (Updated V))
  alone ps = map (λ p. same_page p ∷ []) ps

  gathered_same : (ps : List (Placed V)) → (let g : Gathered (Updated V) = record { leading = []; groups = alone ps } in gathered is_thin (all_same ps) ≡ g)
  gathered_same [] = refl
  gathered_same (p ∷ ps) = rw (gathered_same ps) refl

  groups_same : (ps : List (Placed V)) → groups is_thin (all_same ps) ≡ alone ps
  groups_same ps = rw (gathered_same ps) refl

  -- changes by which these pages stay
  record AreIdle (cs : List (Change V)) (ps : List (Placed V)) : Type 0 where
    pub new : new_of cs ≡ ps
    pub fresh : fresh_of cs ≡ []
    pub freed : freed_of cs ≡ []
    pub outdated : flat_map outdated cs ≡ []

  idle_alone : (s : Settings) (used : List ℕ) (i : ℕ) (ps : List (Placed V)) → AreIdle (changes s used i (alone ps)) ps
  idle_alone s used i [] = record { new = refl; fresh = refl; freed = refl; outdated = refl }
  idle_alone s used i (p ∷ ps) =
      let rest = idle_alone s used (i + 0) ps in
      record { new = ap (λ (qs : List (Placed V)). p ∷ qs) rest.new; fresh = rest.fresh; freed = rest.freed; outdated = rest.outdated }

  idle : (s : Settings) (used : List ℕ) (i : ℕ) (ps : List (Placed V)) → AreIdle (changes s used i (groups is_thin (all_same ps))) ps
  idle s used i ps = rw (groups_same ps) (idle_alone s used i ps)

  no_terms : (cs : List (Change V)) → fresh_of cs ≡ [] → freed_of cs ≡ [] → terms cs ≡ []
  no_terms cs e f = rw (e, f) refl

  -- the same of all families of a level
  record AreAllIdle (css : List (List (Change V))) (fs : List (List (Placed V))) : Type 0 where
    pub new : all_new css ≡ flat fs
    pub termed : AllByRecursion (λ run. run ≡ []) (map terms css)
    pub outdated : all_outdated css ≡ []

  idle_families : (s : Settings) (used : List ℕ) (i : ℕ) (fs : List (List (Placed V))) → AreAllIdle (family_changes s used i (map all_same fs)) fs
  idle_families s used i [] = record { new = refl; termed = tt; outdated = refl }
  idle_families s used i (f ∷ fs) =
      let cs : List (Change V) = changes s used i (groups is_thin (all_same f)) in
      let here : AreIdle cs f = idle s used i f in
      let j : ℕ = i + length (fresh_of cs) in
      let rest = idle_families s used j fs in
      let later : List (List (Change V)) = family_changes s used j (map all_same fs) in
      record {
        new = ap (λ (ps : List (Placed V)). ps ++ all_new later) here.new ∙ ap (λ (ps : List (Placed V)). f ++ ps) rest.new;
        termed = (no_terms cs here.fresh here.freed, rest.termed);
        outdated = ap (λ (ns : List ℕ). ns ++ all_outdated later) here.outdated ∙ rest.outdated;
      }

  families_same : (ps : List (Placed ℕ)) (qs : List (Placed V)) → families ps (all_same qs) ≡ map all_same (families ps qs)
  families_same [] qs = refl
  families_same (p ∷ ps) qs =
      let n : ℕ = length (entries p) in
      let a : take n (all_same qs) ≡ all_same (take n qs) = take-map same_page n qs in
      let b : drop n (all_same qs) ≡ all_same (drop n qs) = drop-map same_page n qs in
      ap (λ (ws : List (Updated V)). ws ∷ families ps (drop n (all_same qs))) a
      ∙ ap (λ (ws : List (Updated V)). all_same (take n qs) ∷ families ps ws) b
      ∙ ap (λ (fs : List (List (Updated V))). all_same (take n qs) ∷ fs) (families_same ps (drop n qs))

-- ---- all levels

-- these levels, with nothing outdated
abbrev pub as_they_were : {V : Type 0} → List (Placed V) → List (List (Placed ℕ)) → Climbed V
as_they_were level ups = record { tower = record { level = level; above = ups }; outdated = [] }

pub climb_same : {V : Type 0} (s : Settings) (used : List ℕ) (i : ℕ) (ps : List (Placed V)) (ups : List (List (Placed ℕ))) → Stacked ps ups → climb s used i (all_same ps) ups ≡ as_they_were ps ups
climb_same s used i [] [] o = absurd (omega arith)
climb_same s used i (p ∷ []) [] o = refl
climb_same s used i (p ∷ q ∷ ps) [] o = absurd (omega arith)
climb_same {V} s used i ps (parents ∷ ups) o =
    let css : List (List (Change V)) = family_changes s used i (families parents (all_same ps)) in
    let r : AreAllIdle css (families parents ps) = rw (families_same parents ps) (idle_families s used i (families parents ps)) in
    let count : length (joined parents) ≡ length ps = ap (λ (ns : Separators). length ns) o.0.linked ∙ length-map ps name in
    let level : all_new css ≡ ps = r.new ∙ families_by_length parents ps count in
    let j : ℕ = i + length (all_fresh css) in
    let vs : updated_parents s parents (map terms css) ≡ all_same parents = parents_same s parents (map terms css) r.termed in
    let up : climb s used j (updated_parents s parents (map terms css)) ups ≡ as_they_were parents ups =
    ap (λ (ws : List (Updated ℕ)). climb s used j ws ups) vs ∙ climb_same s used j parents ups o.1 in
    let nothing : all_outdated css ≡ [] = r.outdated in
    rw (up, nothing, level) refl

-- ---- the root stays

pub not_lone_by : (b : Bool) (n : ℕ) → nat_eq n 1 ≡ b → 2 ≤ n → b ≡ false
not_lone_by true n e h = absurd (let one : n ≡ 1 = eqb-true n 1 e in omega arith)
not_lone_by false n e h = refl

not_lone : (l : List (Placed ℕ)) → AllByRecursion (λ p. IsHeaded 2 p.page) l → is_lone l ≡ false
not_lone [] h = refl
not_lone (p ∷ []) h = not_lone_by (nat_eq (length (entries p)) 1) (length (entries p)) refl h.0.some
not_lone (p ∷ q ∷ ps) h = refl

all_kept : (ls : List (List (Placed ℕ))) → IsBranchedTop ls → kept_levels ls ≡ ls
all_kept [] h = refl
all_kept (l ∷ []) h = rw (not_lone l h) refl
all_kept (l ∷ up ∷ ups) h = ap (λ (ls : List (List (Placed ℕ))). kept_under l ls) (all_kept (up ∷ ups) h)

all_dropped : {X : Type 0} (xs : List X) → drop (length xs) xs ≡ []
all_dropped [] = refl
all_dropped (x ∷ xs) = all_dropped xs

none_shrunk : (ls : List (List (Placed ℕ))) → IsBranchedTop ls → shrunk_pids ls ≡ []
none_shrunk ls h =
    ap (λ (k : List (List (Placed ℕ))). flat_map pids (drop (length k) ls)) (all_kept ls h) ∙ ap (λ (k : List (List (Placed ℕ))). flat_map pids k) (all_dropped ls)

-- ---- the root and the height of a tree are those of its levels

module _ (ps : List (ℕ × PageOfKind)) where
  pub levels_above : (n : ℕ) (level : List ℕ) (above : List (List (Placed ℕ))) → length (levels_below ps n level above).above ≡ n + length above
  levels_above zero level above = let e : length above ≡ 0 + length above = omega arith in e
  levels_above (suc n) level above =
      let here : List (Placed ℕ) = map (index_at ps) level in
      let rest : length (levels_below ps n (values_of (joined here)) (here ∷ above)).above ≡ n + length (here ∷ above) = levels_above n (values_of (joined here)) (here ∷ above) in
      let e : n + suc (length above) ≡ suc n + length above = omega arith in
      rest ∙ e

pub height_by : (h : ℕ) → 0 < h → suc (pred h) ≡ h
height_by zero l = absurd (omega arith)
height_by (suc n) l = refl

-- ---- the plan

pub none_outdated : (ls : List (ℕ × Logged)) → outdate_all [] ls ≡ ls
none_outdated [] = refl
none_outdated (l ∷ ls) = ap (λ (rest : List (ℕ × Logged)). l ∷ rest) (none_outdated ls)

pub same_tree : (t u : Tree) → t.pages ≡ u.pages → t.root ≡ u.root → t.height ≡ u.height → t.logged ≡ u.logged → t ≡ u
same_tree t u a b c d =
    let made : List (ℕ × PageOfKind) → ℕ → ℕ → List (ℕ × Logged) → Tree = λ p r h l. record { pages = p; root = r; height = h; logged = l } in
    ap (λ (p : List (ℕ × PageOfKind)). made p t.root t.height t.logged) a
    ∙ ap (λ (r : ℕ). made u.pages r t.height t.logged) b
    ∙ ap (λ (h : ℕ). made u.pages u.root h t.logged) c
    ∙ ap (λ (l : List (ℕ × Logged)). made u.pages u.root u.height l) d

module _ {A : Type 0} (s : Settings) (t : Tree) (cs : List (Command A)) (proper : IsProper s t) (nothing : net_run (contents t) cs ≡ []) where
  climbed_same : batch_climb s t cs ≡ as_they_were (levels_of t).level (levels_of t).above
  climbed_same =
      let l : Levels = levels_of t in
      ap (λ (run : List (List ℕ × Option (List ℕ))). climb s (keys_of t.pages) 0 (updated_leaves s run l.level) l.above) nothing
      ∙ ap (λ (ws : List (Updated (List ℕ))). climb s (keys_of t.pages) 0 ws l.above) (leaves_same s l.level)
      ∙ climb_same s (keys_of t.pages) 0 l.level l.above proper.levels.stacked

  levels_same : planned_levels s t cs ≡ levels_of t
  levels_same =
      let l : Levels = levels_of t in
      let made : List (List (Placed ℕ)) → Levels = λ ups. record { level = l.level; above = ups } in
      ap (λ (c : Climbed (List ℕ)). shrunk_levels c) climbed_same ∙ ap (λ (ups : List (List (Placed ℕ))). made ups) (all_kept l.above proper.levels.top)

  -- no pid is outdated
  pub nothing_outdated : outdated_pids s t cs ≡ []
  nothing_outdated =
      ap (λ (c : Climbed (List ℕ)). c.outdated ++ shrunk_pids c.tower.above) climbed_same ∙ none_shrunk (levels_of t).above proper.levels.top

  -- and the tree is unchanged
  pub tree_stays : planned_tree s t cs ≡ t
  tree_stays =
      let l : Levels = levels_of t in
      let high : suc (length l.above) ≡ t.height =
      (let n = levels_above t.pages (pred t.height) (t.root ∷ []) [] in let m = height_by t.height proper.tree.some in omega arith) in
      same_tree (planned_tree s t cs) t
      (ap (λ (x : Levels). by_pid (all_pages x)) levels_same ∙ by_pid-unique t.pages l proper.tree.rising proper.levels.distinct proper.held)
      (ap (λ (x : Levels). top_pid x.level x.above) levels_same ∙ root_on_top t.pages (pred t.height) t.root)
      (ap (λ (x : Levels). suc (length x.above)) levels_same ∙ high)
      (ap (λ (gone : List ℕ). outdate_all gone t.logged) nothing_outdated ∙ none_outdated t.logged)

-- ---- gets

module _ (A : Type 0) where
  abbrev pub gets : List (List ℕ) → List (Command A)
  gets ks = map (λ k. Get k) ks

  gets_touch_nothing : (after before : List (List ℕ × List ℕ)) (ks : List (List ℕ)) → touched after before (gets ks) ≡ []
  gets_touch_nothing after before [] = refl
  gets_touch_nothing after before (k ∷ ks) = gets_touch_nothing after before ks

  -- a batch of gets has an empty net run
  pub net_run-gets : (m : List (List ℕ × List ℕ)) (ks : List (List ℕ)) → net_run m (gets ks) ≡ []
  net_run-gets m ks = gets_touch_nothing (map_after_all m (gets ks)) m ks
