-- A tree in memory that is ready to climb has its leaves as a level; after all levels have climbed, the root can shrink.
use Rattle.std.specs.Prelude.{◌≡◌, ℕ, suc, pred, ◌+◌, ◌-◌, ◌<◌, ◌≤◌, Bool, true, false, cond, List, [], ◌∷◌, length, Option, Some, None}
use Rattle.std.proofs.Common.{refl, sym, ap, ◌∙◌, subst, arith}
use Rattle.std.specs.List.{AllByRecursion}
use Rattle.std.specs.Map.{keys_of}
use Rattle.std.specs.Ordering.{nat_cmp, is_eq}
use Rattle.keys.specs.declared.command.Command.{Command}
use Rattle.keys.specs.declared.settings.Settings.{Settings}
use Rattle.index_page.specs.Page.{PageOfKind}
use Rattle.index_page.specs.Page.PageOfKind.{Leaf}
use Rattle.mapping.specs.Levels.{Placed, names, levels_of}
use Rattle.mapping.specs.FreshPids.{unused}
use Rattle.mapping.specs.Proper.{AreRisingPids, IsTrueOf}
use Rattle.mapping.specs.Table.{Mapping, pids_in_use, place_of, IsOldWithoutPlace}
use Rattle.mapping.specs.Tree.{Logged, Tree, listed_at, page_at}
use Rattle.mapping.specs.Tree.Logged.{No, Old, Upto}
use Rattle.mapping.specs.TreeInMemory.{TreeInMemory, AreAllHome, tree_of}
use Rattle.mapping.proofs.SameTree.{root_on_top}
use Rattle.mapping.proofs.TileLemmas.{next_low-same}
use Rattle.page_runs.specs.Updated.{Updated}
use Rattle.split_plan.specs.UpdatedLevel.{placed_of}
use Rattle.climb_plan.specs.Changing.{SeenPage}
use Rattle.climb_plan.specs.Climb.{Climbed, LevelPlan, kept_levels}
use Rattle.climb_plan.specs.HasClimbed.{HasClimbed, CanShrink, HasShrunk}
use Rattle.climb_plan.specs.Level.{IsLevel}
use Rattle.climb_plan.specs.LevelSteps.{SomeLevel, ClimbsFrom, IsTooHighFrom}
use Rattle.climb_plan.specs.Plan.{batch_climb, planned_tree}
use Rattle.climb_plan.specs.Ready.{IsReady}
use Rattle.climb_plan.proofs.Arrived.{leaves_after, keep_names, whole_distinct, distinct_after, never_after, climbed-height, arrived-home, arrived-tree}
use Rattle.climb_plan.proofs.BridgeNext.{top_pid-same, stacked-same}
use Rattle.climb_plan.proofs.Climbs.{stacked-climb}
use Rattle.climb_plan.proofs.Grown.{grown_is_kept, kept_are_no_more}
use Rattle.climb_plan.proofs.Leaves.{tiled-leaves}
use Rattle.climb_plan.proofs.Untouched.{levels_above, height_by}
use Rattle.climb_plan.proofs.LevelParts.{level_of}

-- ---- tables with the same pids

module _ {X Y : Type 0} where
  none_by : (b c : Bool) (x : X) (y : Y) (rest : Option X) (other : Option Y) → b ≡ c → (rest ≡ None → other ≡ None) → cond b (Some x) rest ≡ None → cond c (Some y) other ≡ None
  none_by true c x y rest other e f h = absurd (cc)
  none_by false true x y rest other e f h = absurd (cc)
  none_by false false x y rest other e f h = f h

  -- if nothing is listed under a pid, nothing is in a list of the same pids
  none_alike : (n : ℕ) (es : List (ℕ × X)) (fs : List (ℕ × Y)) → keys_of es ≡ keys_of fs → listed_at es n ≡ None → listed_at fs n ≡ None
  none_alike n [] [] e h = refl
  none_alike n [] (f ∷ fs) e h = absurd (cc)
  none_alike n (d ∷ es) [] e h = absurd (cc)
  none_alike n (d ∷ es) (f ∷ fs) e h =
      let here : d.0 ≡ f.0 = cc in
      let rest : keys_of es ≡ keys_of fs = cc in
      none_by (is_eq (nat_cmp n d.0)) (is_eq (nat_cmp n f.0)) d.1 f.1 (listed_at es n) (listed_at fs n) (ap (λ (k : ℕ). is_eq (nat_cmp n k)) here) (none_alike n es fs rest) h

-- of no page only something old is listed
old_by : (o : Option PageOfKind) (l : Logged) → o ≡ None → IsTrueOf o l → l ≡ Old
old_by o No e h = absurd h
old_by o Old e h = refl
old_by None (Upto k) e h = absurd h
old_by (Some p) (Upto k) e h = absurd (cc)

logs_by : (t : Mapping PageOfKind) (ps : List (ℕ × PageOfKind)) (ls : List (ℕ × Logged)) → pids_in_use t ≡ keys_of ps → AllByRecursion (λ l. IsTrueOf (page_at ps l.0) l.1) ls → AllByRecursion (λ l. place_of t l.0 ≡ None → l.1 ≡ Old) ls
logs_by t ps [] e h = tt
logs_by t ps (l ∷ ls) e h = (λ n. old_by (page_at ps l.0) l.1 (none_alike l.0 t.places ps e n) h.0, logs_by t ps ls e h.1)

-- ---- the leaves

module _ {A : Type 0} (s : Settings) (fan : 1 < s.fan) (t : Tree) (cs : List (Command A)) (m : TreeInMemory) (xs : List SeenPage) (r : IsReady s t cs m xs) where
  abbrev leaves : List (Updated (List ℕ))
  leaves = leaves_after s t cs fan r.proper

  abbrev same_names : names (placed_of leaves) ≡ names (levels_of t).level
  same_names = keep_names s t cs fan r.proper

  -- the log state of a pid without a place is `Old`
  ready_logs : IsOldWithoutPlace m.table
  ready_logs = logs_by m.table t.pages m.table.logged r.in_use (subst (λ (ls : List (ℕ × Logged)). AllByRecursion (λ l. IsTrueOf (page_at t.pages l.0) l.1) ls) (sym r.logged) r.logs.each)

  -- they are a level, under the levels of the tree
  abbrev pub ready_plan : LevelPlan (List ℕ)
  ready_plan = level_of leaves (levels_of t).above (keys_of t.pages) 0

  pub ready_level : IsLevel Leaf m xs ready_plan
  ready_level = record {
    seen = r.leaves;
    tiled = tiled-leaves s cs (levels_of t).level r.proper.levels.first r.proper.levels.tiled;
    first = next_low-same (placed_of leaves) (levels_of t).level None same_names ∙ r.proper.levels.first;
    stacked = stacked-same (placed_of leaves) (levels_of t).level (levels_of t).above same_names r.proper.levels.stacked;
    home = r.above;
    root = r.root ∙ sym (root_on_top t.pages (pred t.height) t.root) ∙ sym (top_pid-same (placed_of leaves) (levels_of t).level (levels_of t).above same_names);
    distinct = distinct_after s t cs fan r.proper;
    old = never_after s t cs fan r.proper;
    rising = subst (λ (ns : List ℕ). AreRisingPids ns) (sym r.in_use) r.proper.tree.rising;
    drawn = λ k. let e : k ≡ 0 + k = omega arith in ap (λ (ns : List ℕ). unused ns k) r.in_use ∙ ap (λ (n : ℕ). unused (keys_of t.pages) n) e;
    logs = ready_logs;
  }

  levels_counted : m.height ≡ suc (length (levels_of t).above)
  levels_counted =
      let high : suc (pred t.height) ≡ t.height = height_by t.height r.proper.tree.some in
      let count : length (levels_of t).above ≡ pred t.height + 0 = levels_above t.pages (pred t.height) (t.root ∷ []) [] in
      let same : m.height ≡ t.height = r.height in
      omega arith

  -- how many levels below the root
  pub ready_depth : m.height - 1 ≡ length (levels_of t).above
  ready_depth = let e = levels_counted in omega arith

  -- ---- after they have climbed

  -- too many levels stay too many, since a tree that grew doesn't shrink
  pub ready_high : m.height ≤ 64 → 64 + length (levels_of t).above < m.height + length (batch_climb s t cs).tower.above → 64 < (planned_tree s t cs).height
  ready_high low h =
      let e = levels_counted in
      let k = ap (λ (ls : List (List (Placed ℕ))). length ls) (grown_is_kept s (keys_of t.pages) 0 leaves (levels_of t).above (omega arith)) in
      omega arith

  module _ (after : TreeInMemory) (climbing : HasClimbed Leaf m after ready_plan (batch_climb s t cs)) where
    -- the root can shrink
    pub ready_to_shrink : CanShrink after (batch_climb s t cs).tower.level (batch_climb s t cs).tower.above
    ready_to_shrink = record {
      home = climbing.above;
      stacked = (stacked-climb s (keys_of t.pages) 0 leaves (levels_of t).level (levels_of t).above fan same_names r.proper.levels.stacked (tiled-leaves s cs (levels_of t).level r.proper.levels.first r.proper.levels.tiled)).1;
      distinct = whole_distinct s t cs fan r.proper;
      rising = climbing.rising;
      root = climbing.root;
      height = climbed-height s t cs fan r.proper m after r.in_use climbing r.height;
    }

    module _ (last : TreeInMemory) (shrinking : HasShrunk after last (batch_climb s t cs).tower.level (batch_climb s t cs).tower.above) where
      -- the tree is the planned one then
      pub ready_arrives : AreAllHome last × (tree_of last ≡ planned_tree s t cs)
      ready_arrives = (
        arrived-home s t cs fan r.proper m after r.in_use climbing last shrinking,
        arrived-tree s t cs fan r.proper m after r.in_use climbing last shrinking r.logged,
      )

      -- and no higher than before the root shrank
      pub ready_low : after.height ≤ 64 → last.height ≤ 64
      ready_low low =
          let before : after.height ≡ suc (length (batch_climb s t cs).tower.above) = ready_to_shrink.height in
          let now : last.height ≡ suc (length (kept_levels (batch_climb s t cs).tower.above)) = shrinking.height in
          let less = kept_are_no_more (batch_climb s t cs).tower.above in
          omega arith

-- ---- in the form of the code

module _ (A : Type 0) (s : Settings) (fan : 1 < s.fan) (m : TreeInMemory) (xs : List SeenPage) (height : ℕ) (is : height ≡ m.height) where
  -- there are commands for which the tree is ready
  abbrev pub SomeReady : Type 0
  SomeReady = (t : Tree) × (cs : List (Command A)) × IsReady s t cs m xs

  depth_by : (t : Tree) (cs : List (Command A)) (r : IsReady s t cs m xs) → height - 1 ≡ length (levels_of t).above
  depth_by t cs r = ap (λ (n : ℕ). n - 1) is ∙ ready_depth s fan t cs m xs r

  pub some_leaves : SomeReady → SomeLevel Leaf m xs (height - 1)
  some_leaves k = (ready_plan s fan k.0 k.1 m xs k.2, ready_level s fan k.0 k.1 m xs k.2, depth_by k.0 k.1 k.2)

  pub too_high : (P : Type 0) → m.height ≤ 64 → (P → IsTooHighFrom Leaf s m xs (height - 1)) → (t : Tree) (cs : List (Command A)) → IsReady s t cs m xs → P → 64 < (planned_tree s t cs).height
  too_high P low f t cs r p = ready_high s fan t cs m xs r low (f p (ready_plan s fan t cs m xs r) (ready_level s fan t cs m xs r) (depth_by t cs r))

  module _ (after : TreeInMemory) (climbs : ClimbsFrom Leaf s m after xs (height - 1)) where
    has_climbed : (t : Tree) (cs : List (Command A)) (r : IsReady s t cs m xs) → HasClimbed Leaf m after (ready_plan s fan t cs m xs r) (batch_climb s t cs)
    has_climbed t cs r = climbs (ready_plan s fan t cs m xs r) (ready_level s fan t cs m xs r) (depth_by t cs r)

    pub some_to_shrink : SomeReady → (level : List (Placed (List ℕ))) × (ls : List (List (Placed ℕ))) × CanShrink after level ls
    some_to_shrink k =
        let c : Climbed (List ℕ) = batch_climb s k.0 k.1 in
        (c.tower.level, c.tower.above, ready_to_shrink s fan k.0 k.1 m xs k.2 after (has_climbed k.0 k.1 k.2))

    module _ (last : TreeInMemory) (shrinks : (level : List (Placed (List ℕ))) (ls : List (List (Placed ℕ))) → CanShrink after level ls → HasShrunk after last level ls) where
      has_shrunk : (t : Tree) (cs : List (Command A)) (r : IsReady s t cs m xs) → HasShrunk after last (batch_climb s t cs).tower.level (batch_climb s t cs).tower.above
      has_shrunk t cs r = shrinks (batch_climb s t cs).tower.level (batch_climb s t cs).tower.above (ready_to_shrink s fan t cs m xs r after (has_climbed t cs r))

      pub all_arrive : (t : Tree) (cs : List (Command A)) → IsReady s t cs m xs → AreAllHome last × (tree_of last ≡ planned_tree s t cs)
      all_arrive t cs r = ready_arrives s fan t cs m xs r after (has_climbed t cs r) last (has_shrunk t cs r)

      pub all_low : SomeReady → after.height ≤ 64 → last.height ≤ 64
      all_low k = ready_low s fan k.0 k.1 m xs k.2 after (has_climbed k.0 k.1 k.2) last (has_shrunk k.0 k.1 k.2)
