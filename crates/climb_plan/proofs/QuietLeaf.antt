-- If of a batch's leaves exactly one changes, and is neither replaced nor thin nor fat, no group is rewritten and no parent gets a run: the
-- plan is the tree with that leaf back in its place.
use Rattle.std.specs.Prelude.{◌≡◌, ℕ, zero, suc, ◌+◌, ◌<◌, false, nat_eq, List, [], ◌∷◌, ◌++◌, map, flat_map, take, drop, length, Option, Some, None}
use Rattle.std.proofs.Common.{refl, sym, ap, ◌∙◌, subst, arith}
use Rattle.std.proofs.lemmas.List.{length-map}
use Rattle.std.specs.List.{AllByRecursion}
use Rattle.std.specs.Map.{keys_of}
use Rattle.keys.specs.Lists.{flat}
use Rattle.keys.specs.declared.settings.Settings.{Settings}
use Rattle.keys.specs.declared.command.Command.{Command}
use Rattle.index_page.specs.Page.{Page, PageOfKind}
use Rattle.index_page.specs.Page.PageOfKind.{Leaf, Index}
use Rattle.index_page.specs.Rules.{IsHeaded}
use Rattle.mapping.specs.FreshPids.{is_among}
use Rattle.mapping.specs.Levels.{Placed, entries, joined, name, pids, levels_of, top_pid}
use Rattle.mapping.specs.Proper.{AreRisingPids, IsBranchedTop, Stacked}
use Rattle.mapping.specs.Table.{Mapping, pids_in_use, place_of, with_place}
use Rattle.mapping.specs.Tree.{Tree}
use Rattle.mapping.specs.TreeInMemory.{TreeInMemory, AreAllHome, tree_of}
use Rattle.mapping.specs.Outdate.{outdate_all}
use Rattle.mapping.proofs.PidLemmas.{among_apart}
use Rattle.mapping.proofs.TileLemmas.{Separators}
use Rattle.page_runs.specs.Updated.{Updated, is_thin_class, is_fat_class, is_thin, is_fat}
use Rattle.split_plan.specs.Groups.{Gathered, gathered, groups}
use Rattle.split_plan.specs.UpdatedLevel.{updated_parents, placed_of}
use Rattle.split_plan.specs.Change.{Change, changes, family_changes, new_of, fresh_of, all_new, all_fresh, outdated, all_outdated}
use Rattle.split_plan.specs.Terms.{freed_of, terms}
use Rattle.climb_plan.specs.Changing.{SeenPage, page_seen, AreSeen, AreHome}
use Rattle.climb_plan.specs.Climb.{families, Climbed, climb, is_lone, kept_under, kept_levels}
use Rattle.climb_plan.specs.HasClimbed.{HasClimbed, HasShrunk}
use Rattle.climb_plan.specs.Level.{IsLevel}
use Rattle.climb_plan.specs.Plan.{batch_climb, planned_tree, shrunk_pids}
use Rattle.climb_plan.specs.Ready.{IsReady}
use Rattle.climb_plan.proofs.Arrived.{leaves_after}
use Rattle.climb_plan.proofs.Families.{families_by_length}
use Rattle.climb_plan.proofs.Installing.{place_here, placed_apart}
use Rattle.climb_plan.proofs.InstallingLemmas.{none_of, rising_with_place}
use Rattle.climb_plan.proofs.Ready.{ready_plan, ready_level, ready_to_shrink, ready_arrives}
use Rattle.climb_plan.proofs.Untouched.{all_same, parents_same, as_they_were, climb_same, not_lone_by, none_outdated}

-- ---- pages that are no reason to rewrite a group

pub record IsQuiet {V : Type 0} (w : Updated V) : Type 0 where
  pub kept : is_thin w ≡ false
  pub small : is_fat w ≡ false
  pub same : w.replaced ≡ false

module _ {V : Type 0} where
  abbrev AreQuiet : List (Updated V) → Type 0
  AreQuiet ws = AllByRecursion IsQuiet ws

  abbrev alone : List (Updated V) → List (List (Updated V))
  alone ws = map (λ w. w ∷ []) ws

  gathered_quiet : (ws : List (Updated V)) → AreQuiet ws → (let g : Gathered (Updated V) = record { leading = []; groups = alone ws } in gathered is_thin ws ≡ g)
  gathered_quiet [] q = refl
  gathered_quiet (w ∷ ws) q = rw (gathered_quiet ws q.1, q.0.kept) refl

  groups_quiet : (ws : List (Updated V)) → AreQuiet ws → groups is_thin ws ≡ alone ws
  groups_quiet ws q = rw (gathered_quiet ws q) refl

  -- changes by which these pages stay
  record AreIdle (cs : List (Change V)) (ps : List (Placed V)) : Type 0 where
    pub new : new_of cs ≡ ps
    pub fresh : fresh_of cs ≡ []
    pub freed : freed_of cs ≡ []
    pub outdated : flat_map outdated cs ≡ []

  no_terms : (cs : List (Change V)) → fresh_of cs ≡ [] → freed_of cs ≡ [] → terms cs ≡ []
  no_terms cs e f = rw (e, f) refl

  -- of a page that stays as a group by itself
  abbrev staying : Updated V → Change V
  staying w = record { members = w ∷ []; pages = w.placed ∷ [] }

  changes_quiet : (s : Settings) (used : List ℕ) (i : ℕ) (ws : List (Updated V)) → AreQuiet ws → changes s used i (alone ws) ≡ map staying ws
  changes_quiet s used i [] q = refl
  changes_quiet s used i (w ∷ ws) q = rw q.0.small (ap (λ (cs : List (Change V)). staying w ∷ cs) (changes_quiet s used (i + 0) ws q.1))

  idle_staying : (ws : List (Updated V)) → AreQuiet ws → AreIdle (map staying ws) (placed_of ws)
  idle_staying [] q = record { new = refl; fresh = refl; freed = refl; outdated = refl }
  idle_staying (w ∷ ws) q =
      let rest = idle_staying ws q.1 in
      record { new = ap (λ (ps : List (Placed V)). w.placed ∷ ps) rest.new; fresh = rest.fresh; freed = rest.freed; outdated = rw (q.0.small, q.0.same) rest.outdated }

  idle : (s : Settings) (used : List ℕ) (i : ℕ) (ws : List (Updated V)) → AreQuiet ws → AreIdle (changes s used i (groups is_thin ws)) (placed_of ws)
  idle s used i ws q = subst (λ (cs : List (Change V)). AreIdle cs (placed_of ws)) (sym (ap (λ (gs : List (List (Updated V))). changes s used i gs) (groups_quiet ws q) ∙ changes_quiet s used i ws q)) (idle_staying ws q)

  -- the same of all families of a level
  record AreAllIdle (css : List (List (Change V))) (ps : List (Placed V)) : Type 0 where
    pub new : all_new css ≡ ps
    pub termed : AllByRecursion (λ run. run ≡ []) (map terms css)
    pub outdated : all_outdated css ≡ []

  quiet_take : (n : ℕ) (ws : List (Updated V)) → AreQuiet ws → AreQuiet (take n ws) × AreQuiet (drop n ws)
  quiet_take zero ws q = (tt, q)
  quiet_take (suc n) [] q = (tt, tt)
  quiet_take (suc n) (w ∷ ws) q = let r = quiet_take n ws q.1 in ((q.0, r.0), r.1)

  placed-append : (ws vs : List (Updated V)) → placed_of (ws ++ vs) ≡ placed_of ws ++ placed_of vs
  placed-append [] vs = refl
  placed-append (w ∷ ws) vs = ap (λ (ps : List (Placed V)). w.placed ∷ ps) (placed-append ws vs)

  idle_families : (s : Settings) (used : List ℕ) (i : ℕ) (ps : List (Placed ℕ)) (ws : List (Updated V)) → AreQuiet ws → AreAllIdle (family_changes s used i (families ps ws)) (placed_of (flat (families ps ws)))
  idle_families s used i [] ws q = record { new = refl; termed = tt; outdated = refl }
  idle_families s used i (p ∷ ps) ws q =
      let n : ℕ = length (entries p) in
      let parts = quiet_take n ws q in
      let f : List (Updated V) = take n ws in
      let cs : List (Change V) = changes s used i (groups is_thin f) in
      let here : AreIdle cs (placed_of f) = idle s used i f parts.0 in
      let j : ℕ = i + length (fresh_of cs) in
      let rest = idle_families s used j ps (drop n ws) parts.1 in
      let later : List (List (Change V)) = family_changes s used j (families ps (drop n ws)) in
      record {
        new = ap (λ (qs : List (Placed V)). qs ++ all_new later) here.new ∙ ap (λ (qs : List (Placed V)). placed_of f ++ qs) rest.new ∙ sym (placed-append f (flat (families ps (drop n ws))));
        termed = (no_terms cs here.fresh here.freed, rest.termed);
        outdated = ap (λ (ns : List ℕ). ns ++ all_outdated later) here.outdated ∙ rest.outdated;
      }

-- a climb from such a level leaves its pages as they are, and all levels above
climb_quiet : {V : Type 0} (s : Settings) (used : List ℕ) (i : ℕ) (ws : List (Updated V)) (ups : List (List (Placed ℕ))) → AreQuiet ws → Stacked (placed_of ws) ups → climb s used i ws ups ≡ as_they_were (placed_of ws) ups
climb_quiet s used i [] [] q o = absurd (omega arith)
climb_quiet s used i (w ∷ []) [] q o = rw (q.0.small, q.0.same) refl
climb_quiet s used i (w ∷ v ∷ ws) [] q o = absurd (omega arith)
climb_quiet {V} s used i ws (parents ∷ ups) q o =
    let css : List (List (Change V)) = family_changes s used i (families parents ws) in
    let r : AreAllIdle css (placed_of (flat (families parents ws))) = idle_families s used i parents ws q in
    let count : length (joined parents) ≡ length ws = ap (λ (ns : Separators). length ns) o.0.linked ∙ length-map (placed_of ws) name ∙ length-map ws (λ (w : Updated V). w.placed) in
    let level : all_new css ≡ placed_of ws = r.new ∙ ap (λ (vs : List (Updated V)). placed_of vs) (families_by_length parents ws count) in
    let j : ℕ = i + length (all_fresh css) in
    let vs : updated_parents s parents (map terms css) ≡ all_same parents = parents_same s parents (map terms css) r.termed in
    let up = ap (λ (us : List (Updated ℕ)). climb s used j us ups) vs ∙ climb_same s used j parents ups o.1 in
    let nothing : all_outdated css ≡ [] = r.outdated in
    rw (up, nothing, level) refl

-- ---- the root stays

not_lone : (l : List (Placed ℕ)) → AllByRecursion (λ p. IsHeaded 2 p.page) l → is_lone l ≡ false
not_lone [] h = refl
not_lone (p ∷ []) h = not_lone_by (nat_eq (length (entries p)) 1) (length (entries p)) refl h.0.some
not_lone (p ∷ q ∷ ps) h = refl

all_kept : (ls : List (List (Placed ℕ))) → IsBranchedTop ls → kept_levels ls ≡ ls
all_kept [] h = refl
all_kept (l ∷ []) h = rw (not_lone l h) refl
all_kept (l ∷ up ∷ ups) h = ap (λ (ls : List (List (Placed ℕ))). kept_under l ls) (all_kept (up ∷ ups) h)

all_dropped : {X : Type 0} (xs : List X) → drop (length xs) xs ≡ []
all_dropped [] = refl
all_dropped (x ∷ xs) = all_dropped xs

none_shrunk : (ls : List (List (Placed ℕ))) → IsBranchedTop ls → shrunk_pids ls ≡ []
none_shrunk ls h = ap (λ (k : List (List (Placed ℕ))). flat_map pids (drop (length k) ls)) (all_kept ls h) ∙ ap (λ (k : List (List (Placed ℕ))). flat_map pids k) (all_dropped ls)

stays_high : (t : TreeInMemory) (level : List (Placed (List ℕ))) (ls : List (List (Placed ℕ))) → IsBranchedTop ls → AreRisingPids (pids_in_use t.table) → t.root ≡ top_pid level ls → t.height ≡ suc (length ls) → HasShrunk t t level ls
stays_high t level ls h r e n =
    let none : shrunk_pids ls ≡ [] = none_shrunk ls h in
    let kept : kept_levels ls ≡ ls = all_kept ls h in
    record {
      gone = λ pid a. absurd (let b : is_among pid (shrunk_pids ls) ≡ false = ap (λ (ns : List ℕ). is_among pid ns) none in cc);
      others = λ pid a. refl;
      rising = r;
      logged = sym (ap (λ (ns : List ℕ). outdate_all ns t.table.logged) none ∙ none_outdated t.table.logged);
      root = e ∙ ap (λ (ups : List (List (Placed ℕ))). top_pid level ups) (sym kept);
      height = n ∙ ap (λ (ups : List (List (Placed ℕ))). suc (length ups)) (sym kept);
    }

-- ---- the leaf is put back

-- a page as it is seen that is no reason either
pub record IsSeenQuiet (x : SeenPage) : Type 0 where
  pub kept : is_thin_class x.class ≡ false
  pub small : is_fat_class x.class ≡ false
  pub same : x.replaced ≡ false

quiet_level : (t : Mapping PageOfKind) (xs : List SeenPage) (ws : List (Updated (List ℕ))) → AreSeen Leaf t xs ws → AllByRecursion IsSeenQuiet xs → AreQuiet ws
quiet_level t xs ws (AreSeen.none) q = tt
quiet_level t xs ws (AreSeen.updated {xs = ys} {ws = vs} w h a) q = (record { kept = q.0.kept; small = q.0.small; same = q.0.same }, quiet_level t ys vs a q.1)
quiet_level t xs ws (AreSeen.at_home {ws = vs} p h a) q = (record { kept = refl; small = refl; same = refl }, quiet_level t xs vs a q)

module _ (t : Mapping PageOfKind) (k : ℕ) (p : PageOfKind) (away : place_of t k ≡ Some None) where
  -- a page in the table is another page, and stays
  stays : (n : ℕ) (q : PageOfKind) → place_of t n ≡ Some (Some q) → place_of (with_place t k (Some p)) n ≡ Some (Some q)
  stays n q h = placed_apart t k (Some p) n (λ e. let there : place_of t k ≡ Some (Some q) = ap (λ (j : ℕ). place_of t j) (sym e) ∙ h in absurd (cc)) ∙ h

  stay : {V : Type 0} (of : Page V → PageOfKind) (ps : List (Placed V)) → AreHome of t ps → AreHome of (with_place t k (Some p)) ps
  stay of [] h = tt
  stay of (q ∷ ps) h = (stays q.pid (of q.page) h.0, stay of ps h.1)

  stay_above : (ls : List (List (Placed ℕ))) → AllByRecursion (AreHome Index t) ls → AllByRecursion (AreHome Index (with_place t k (Some p))) ls
  stay_above [] h = tt
  stay_above (l ∷ ls) h = (stay Index l h.0, stay_above ls h.1)

  none_seen : (xs : List SeenPage) (ws : List (Updated (List ℕ))) → xs ≡ [] → AreSeen Leaf t xs ws → AreHome Leaf (with_place t k (Some p)) (placed_of ws)
  none_seen xs ws e (AreSeen.none) = tt
  none_seen xs ws e (AreSeen.updated w h a) = absurd (cc)
  none_seen xs ws e (AreSeen.at_home {ws = vs} q h a) = (stays q.pid (Leaf q.page) h, none_seen xs vs e a)

away_there : (t : Mapping PageOfKind) (x : SeenPage) (xs : List SeenPage) (ws : List (Updated (List ℕ))) → xs ≡ x ∷ [] → AreSeen Leaf t xs ws → place_of t x.pid ≡ Some None
away_there t x xs ws e (AreSeen.none) = absurd (cc)
away_there t x xs ws e (AreSeen.updated w h a) = let same : page_seen Leaf w ≡ x = cc in ap (λ (y : SeenPage). place_of t y.pid) (sym same) ∙ h
away_there t x xs ws e (AreSeen.at_home {ws = vs} q h a) = away_there t x xs vs e a

home_again : (t : Mapping PageOfKind) (x : SeenPage) (away : place_of t x.pid ≡ Some None) (xs : List SeenPage) (ws : List (Updated (List ℕ))) → xs ≡ x ∷ [] → AreSeen Leaf t xs ws → AreHome Leaf (with_place t x.pid (Some x.page)) (placed_of ws)
home_again t x away xs ws e (AreSeen.none) = absurd (cc)
home_again t x away xs ws e (AreSeen.updated {xs = ys} {ws = vs} w h a) =
    let same : page_seen Leaf w ≡ x = cc in
    let rest : ys ≡ [] = cc in
    let here : place_of (with_place t x.pid (Some x.page)) w.placed.pid ≡ Some (Some (Leaf w.placed.page)) =
    ap (λ (y : SeenPage). place_of (with_place t x.pid (Some x.page)) y.pid) same ∙ place_here t x.pid (Some x.page) ∙ ap (λ (y : SeenPage). (let o : Option (Option PageOfKind) = Some (Some y.page) in o)) (sym same) in
    (here, none_seen t x.pid x.page away ys vs rest a)
home_again t x away xs ws e (AreSeen.at_home {ws = vs} q h a) = (stays t x.pid x.page away q.pid (Leaf q.page) h, home_again t x away xs vs e a)

-- ---- the tree

-- the tree with the page in its place
abbrev pub with_page : TreeInMemory → SeenPage → TreeInMemory
with_page m x = record m { table = with_place m.table x.pid (Some x.page) }

module _ {A : Type 0} (s : Settings) (fan : 1 < s.fan) (t : Tree) (cs : List (Command A)) (m : TreeInMemory) (x : SeenPage) (r : IsReady s t cs m (x ∷ [])) (quiet : IsSeenQuiet x) where
  abbrev level : List (Placed (List ℕ))
  level = placed_of (leaves_after s t cs fan r.proper)

  abbrev now : TreeInMemory
  now = with_page m x

  known : IsLevel Leaf m (x ∷ []) (ready_plan s fan t cs m (x ∷ []) r)
  known = ready_level s fan t cs m (x ∷ []) r

  away : place_of m.table x.pid ≡ Some None
  away = away_there m.table x (x ∷ []) (leaves_after s t cs fan r.proper) refl r.leaves

  others_stay : (n : ℕ) → is_among n (pids level) ≡ false → place_of now.table n ≡ place_of m.table n
  others_stay n h = placed_apart m.table x.pid (Some x.page) n (λ e. absurd (not_there (leaves_after s t cs fan r.proper) (x ∷ []) refl r.leaves n e h))
    where
      not_there : (ws : List (Updated (List ℕ))) (xs : List SeenPage) → xs ≡ x ∷ [] → AreSeen Leaf m.table xs ws → (n : ℕ) → n ≡ x.pid → is_among n (pids (placed_of ws)) ≡ false → ⊥
      not_there ws xs e (AreSeen.none) n i h = absurd (cc)
      not_there ws xs e (AreSeen.updated {ws = vs} w k a) n i h =
          let same : page_seen Leaf w ≡ x = cc in
          let pid : w.placed.pid ≡ x.pid = ap (λ (y : SeenPage). y.pid) same in
          (none_of n w.placed.pid (pids (placed_of vs)) h).0 (i ∙ sym pid)
      not_there ws xs e (AreSeen.at_home {ws = vs} p k a) n i h = not_there vs xs e a n i (none_of n p.pid (pids (placed_of vs)) h).1

  climbed : batch_climb s t cs ≡ as_they_were level (levels_of t).above
  climbed = climb_quiet s (keys_of t.pages) 0 (leaves_after s t cs fan r.proper) (levels_of t).above (quiet_level m.table (x ∷ []) (leaves_after s t cs fan r.proper) r.leaves (quiet, tt)) known.stacked

  has_climbed : HasClimbed Leaf m now (ready_plan s fan t cs m (x ∷ []) r) (batch_climb s t cs)
  has_climbed = subst (λ (c : Climbed (List ℕ)). HasClimbed Leaf m now (ready_plan s fan t cs m (x ∷ []) r) c) (sym climbed) (record {
    level = home_again m.table x away (x ∷ []) (leaves_after s t cs fan r.proper) refl r.leaves;
    above = stay_above m.table x.pid x.page away (levels_of t).above r.above;
    gone = λ n a b. absurd (cc);
    others = λ n a b. others_stay n (among_apart n (pids level) (flat_map pids (levels_of t).above) a).0;
    rising = rising_with_place m.table x.pid (Some x.page) known.rising;
    logged = sym (none_outdated m.table.logged);
    root = known.root;
    height = refl;
  })

  has_shrunk : HasShrunk now now (batch_climb s t cs).tower.level (batch_climb s t cs).tower.above
  has_shrunk =
      let c = ready_to_shrink s fan t cs m (x ∷ []) r now has_climbed in
      let above : (batch_climb s t cs).tower.above ≡ (levels_of t).above = ap (λ (y : Climbed (List ℕ)). y.tower.above) climbed in
      stays_high now (batch_climb s t cs).tower.level (batch_climb s t cs).tower.above (subst (λ (ls : List (List (Placed ℕ))). IsBranchedTop ls) (sym above) r.proper.levels.top) c.rising c.root c.height

  -- the leaf that is neither replaced nor thin nor fat is put back, and that is the plan
  pub put_is_planned : AreAllHome now × (tree_of now ≡ planned_tree s t cs)
  put_is_planned = ready_arrives s fan t cs m (x ∷ []) r now has_climbed now has_shrunk
