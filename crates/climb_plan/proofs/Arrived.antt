-- After all levels have climbed and the root has shrunk, a tree in memory represents the planned tree.
use Rattle.std.specs.Prelude.{◌≡◌, ℕ, suc, pred, ◌+◌, ◌<◌, Bool, true, false, List, [], ◌∷◌, ◌++◌, flat_map, length, Option, Some, None, IsSome}
use Rattle.std.proofs.Common.{refl, sym, ap, ◌∙◌, subst, arith, append_assoc}
use Rattle.std.specs.List.{AllByRecursion}
use Rattle.std.specs.Map.{keys_of}
use Rattle.std.proofs.lemmas.Bool.{false_from_ne_true}
use Rattle.std.proofs.lemmas.Grind.{flat_map-append}
use Rattle.keys.specs.declared.command.Command.{Command}
use Rattle.keys.specs.declared.settings.Settings.{Settings}
use Rattle.keys.proofs.Basics.{or_turned}
use Rattle.index_page.specs.Page.{Page, PageOfKind}
use Rattle.index_page.specs.Page.PageOfKind.{Leaf, Index}
use Rattle.index_page.proofs.ListLemmas.{all-append, all_apart, all_weaker}
use Rattle.mapping.specs.FreshPids.{is_among, IsNeverUnused}
use Rattle.mapping.specs.Levels.{Placed, Levels, names, pids, all_pids, levels_of, contents, all_pages, by_pid}
use Rattle.mapping.specs.Outdate.{outdate_all}
use Rattle.mapping.specs.Proper.{AreRisingPids, Distinct, IsProper}
use Rattle.mapping.specs.Table.{Mapping, pids_in_use, place_of}
use Rattle.mapping.specs.Tree.{Logged, Tree}
use Rattle.mapping.specs.TreeInMemory.{TreeInMemory, AreAllHome, home_pages, tree_of}
use Rattle.mapping.proofs.LevelLemmas.{same_pids}
use Rattle.mapping.proofs.PidLemmas.{all_among}
use Rattle.mapping.proofs.TableOfLevels.{by_pid-unique, holds_among}
use Rattle.page_runs.specs.NetRun.{net_run}
use Rattle.page_runs.specs.Updated.{Updated}
use Rattle.split_plan.specs.UpdatedLevel.{updated_leaves, placed_of}
use Rattle.split_plan.proofs.PidLemmas.{distinct_renewed}
use Rattle.split_plan.proofs.RunLemmas.{names-updated_leaves}
use Rattle.climb_plan.specs.Changing.{AreHome}
use Rattle.climb_plan.specs.Climb.{Climbed, kept_levels}
use Rattle.climb_plan.specs.HasClimbed.{HasClimbed, HasShrunk}
use Rattle.climb_plan.specs.Plan.{batch_climb, planned_levels, planned_tree, shrunk_pids, outdated_pids}
use Rattle.climb_plan.proofs.ArrivedPages.{nothing_listed, each_listed, home_keys, holds-home}
use Rattle.climb_plan.proofs.ChangingOutdated.{among-joined, outdate-joined, outdate-same}
use Rattle.climb_plan.proofs.Climbing.{still_home, still_home_above}
use Rattle.climb_plan.proofs.InstalledPages.{AreApart, distinct_apart, not_among_from}
use Rattle.climb_plan.proofs.Kept.{all-kept_levels, left, kept_and_left}
use Rattle.climb_plan.proofs.Pids.{renewed-climb}
use Rattle.climb_plan.proofs.Planned.{never_unused, planned_are_levels}
use Rattle.climb_plan.proofs.Untouched.{levels_above, height_by, same_tree}
use Rattle.climb_plan.proofs.LevelParts.{level_of}

-- a number in a concatenation of two lists is in their concatenation in the other order
among_turned : (n : ℕ) (ms ns : List ℕ) → is_among n (ms ++ ns) ≡ is_among n (ns ++ ms)
among_turned n ms ns = among-joined n ms ns ∙ or_turned (is_among n ms) (is_among n ns) ∙ sym (among-joined n ns ms)

-- the pids of all levels are those of the levels that are kept, and of the others
kept_pids : {V : Type 0} (level : List (Placed V)) (ls : List (List (Placed ℕ))) → all_pids level ls ≡ all_pids level (kept_levels ls) ++ shrunk_pids ls
kept_pids level ls =
    ap (λ (x : List (List (Placed ℕ))). pids level ++ flat_map pids x) (sym (kept_and_left ls))
    ∙ ap (λ (ns : List ℕ). pids level ++ ns) (flat_map-append pids (kept_levels ls) (left ls))
    ∙ sym (append_assoc (pids level) (flat_map pids (kept_levels ls)) (flat_map pids (left ls)))

-- ---- a page is in the table

-- the pid has a page in the table
abbrev IsAtHome : Mapping PageOfKind → ℕ → Type 0
IsAtHome t n = (p : PageOfKind) × (place_of t n ≡ Some (Some p))

at_home_level : {V : Type 0} (of : Page V → PageOfKind) (t : Mapping PageOfKind) (ps : List (Placed V)) → AreHome of t ps → AllByRecursion (IsAtHome t) (pids ps)
at_home_level of t [] h = tt
at_home_level of t (p ∷ ps) h = ((of p.page, h.0), at_home_level of t ps h.1)

at_home_above : (t : Mapping PageOfKind) (ls : List (List (Placed ℕ))) → AllByRecursion (AreHome Index t) ls → AllByRecursion (IsAtHome t) (flat_map pids ls)
at_home_above t [] h = tt
at_home_above t (l ∷ ls) h = all-append (IsAtHome t) (pids l) (flat_map pids ls) (at_home_level Index t l h.0) (at_home_above t ls h.1)

some_by : (o : Option PageOfKind) (p : PageOfKind) → Some o ≡ Some (Some p) → IsSome o
some_by None p e = absurd (cc)
some_by (Some q) p e = refl

-- ---- all levels of a plan

module _ {A : Type 0} (s : Settings) (t : Tree) (cs : List (Command A)) (fan : 1 < s.fan) (proper : IsProper s t) where
  -- the leaves after their parts of the net run
  abbrev pub leaves_after : List (Updated (List ℕ))
  leaves_after = updated_leaves s (net_run (contents t) cs) (levels_of t).level

  abbrev whole : Climbed (List ℕ)
  whole = batch_climb s t cs

  abbrev whole_pids : List ℕ
  whole_pids = all_pids whole.tower.level whole.tower.above

  abbrev planned : Levels
  planned = planned_levels s t cs

  abbrev planned_pids : List ℕ
  planned_pids = all_pids planned.level planned.above

  pub keep_names : names (placed_of leaves_after) ≡ names (levels_of t).level
  keep_names = names-updated_leaves s (net_run (contents t) cs) (levels_of t).level

  pub whole_distinct : Distinct whole_pids
  whole_distinct =
      let l : Levels = levels_of t in
      distinct_renewed (renewed-climb s (keys_of t.pages) 0 leaves_after l.level l.above keep_names proper.levels.stacked).1 (never_unused s t proper) proper.levels.distinct

  -- no retained pid is one of those removed with the old root
  kept_apart : AreApart planned_pids (shrunk_pids whole.tower.above)
  kept_apart = (distinct_apart planned_pids (shrunk_pids whole.tower.above) (subst (λ (ns : List ℕ). Distinct ns) (kept_pids whole.tower.level whole.tower.above) whole_distinct)).0

  -- the leaves keep their pids, so these are distinct, and never unused
  same_after : all_pids (placed_of leaves_after) (levels_of t).above ≡ all_pids (levels_of t).level (levels_of t).above
  same_after =
      ap (λ (ns : List ℕ). ns ++ flat_map pids (levels_of t).above) (same_pids (placed_of leaves_after) (levels_of t).level keep_names)

  pub distinct_after : Distinct (all_pids (placed_of leaves_after) (levels_of t).above)
  distinct_after = subst (λ (ns : List ℕ). Distinct ns) (sym same_after) proper.levels.distinct

  pub never_after : AllByRecursion (IsNeverUnused (keys_of t.pages)) (all_pids (placed_of leaves_after) (levels_of t).above)
  never_after = subst (λ (ns : List ℕ). AllByRecursion (IsNeverUnused (keys_of t.pages)) ns) (sym same_after) (never_unused s t proper)

  -- a pid that no level has isn't in use
  not_in_use : (n : ℕ) → is_among n (all_pids (placed_of leaves_after) (levels_of t).above) ≡ false → is_among n (keys_of t.pages) ≡ false
  not_in_use n h =
      let l : Levels = levels_of t in
      let none : is_among n (all_pids l.level l.above) ≡ false = ap (λ (ns : List ℕ). is_among n ns) (sym same_after) ∙ h in
      false_from_ne_true (is_among n (keys_of t.pages)) (λ e. let a : is_among n (all_pids l.level l.above) ≡ true = holds_among (λ m. is_among m (all_pids l.level l.above) ≡ true) n (keys_of t.pages) proper.held.no_other e in absurd (cc))

  module _ (start after : TreeInMemory) (in_use : pids_in_use start.table ≡ keys_of t.pages) (climbing : HasClimbed Leaf start after (level_of leaves_after (levels_of t).above (keys_of t.pages) 0) (batch_climb s t cs)) where
    none_by : (b : Bool) (n : ℕ) → is_among n (all_pids (placed_of leaves_after) (levels_of t).above) ≡ b → is_among n whole_pids ≡ false → place_of after.table n ≡ None
    none_by true n e h = climbing.gone n e h
    none_by false n e h =
        climbing.others n e h ∙ nothing_listed n start.table.places (ap (λ (ns : List ℕ). is_among n ns) in_use ∙ not_in_use n e)

    -- after all levels have climbed, only their pids have places
    pub no_other_place : (n : ℕ) → is_among n whole_pids ≡ false → place_of after.table n ≡ None
    no_other_place n h = none_by (is_among n (all_pids (placed_of leaves_after) (levels_of t).above)) n refl h

    -- and the tree is as high as there are levels
    pub climbed-height : start.height ≡ t.height → after.height ≡ suc (length whole.tower.above)
    climbed-height e =
        let high : suc (pred t.height) ≡ t.height = height_by t.height proper.tree.some in
        let count : length (levels_of t).above ≡ pred t.height + 0 = levels_above t.pages (pred t.height) (t.root ∷ []) [] in
        let grows : after.height + length (levels_of t).above ≡ start.height + length whole.tower.above = climbing.height in
        omega arith

    module _ (last : TreeInMemory) (shrinking : HasShrunk after last (batch_climb s t cs).tower.level (batch_climb s t cs).tower.above) where
      kept_places : AllByRecursion (λ n. place_of last.table n ≡ place_of after.table n) planned_pids
      kept_places = all_weaker (λ n. is_among n planned_pids ≡ true) (λ n. place_of last.table n ≡ place_of after.table n) (λ n e. shrinking.others n (kept_apart n e)) planned_pids (all_among planned_pids)

      abbrev kept_parts : AllByRecursion (λ n. place_of last.table n ≡ place_of after.table n) (pids planned.level) × AllByRecursion (λ n. place_of last.table n ≡ place_of after.table n) (flat_map pids planned.above)
      kept_parts = all_apart (λ n. place_of last.table n ≡ place_of after.table n) (pids planned.level) (flat_map pids planned.above) kept_places

      leaves_home : AreHome Leaf last.table planned.level
      leaves_home = still_home Leaf after.table last.table planned.level kept_parts.0 climbing.level

      above_home : AllByRecursion (AreHome Index last.table) planned.above
      above_home = still_home_above after.table last.table planned.above kept_parts.1 (all-kept_levels (AreHome Index after.table) whole.tower.above climbing.above)

      missing_by : (b : Bool) (n : ℕ) → is_among n (shrunk_pids whole.tower.above) ≡ b → is_among n planned_pids ≡ false → place_of last.table n ≡ None
      missing_by true n e h = shrinking.gone n e
      missing_by false n e h =
          let none : is_among n whole_pids ≡ false = ap (λ (ns : List ℕ). is_among n ns) (kept_pids whole.tower.level whole.tower.above) ∙ not_among_from n planned_pids (shrunk_pids whole.tower.above) h e in
          shrinking.others n e ∙ no_other_place n none

      among_by : (b : Bool) (n : ℕ) (o : Option PageOfKind) → is_among n planned_pids ≡ b → place_of last.table n ≡ Some o → b ≡ true
      among_by true n o e h = refl
      among_by false n o e h = absurd (let none : place_of last.table n ≡ None = missing_by (is_among n (shrunk_pids whole.tower.above)) n refl e in cc)

      -- in the end only pids of planned levels have places
      only_planned : (n : ℕ) (o : Option PageOfKind) → place_of last.table n ≡ Some o → is_among n planned_pids ≡ true
      only_planned n o h = among_by (is_among n planned_pids) n o refl h

      all_home : (n : ℕ) (o : Option PageOfKind) → place_of last.table n ≡ Some o → IsSome o
      all_home n o h =
          let every : AllByRecursion (IsAtHome last.table) planned_pids = all-append (IsAtHome last.table) (pids planned.level) (flat_map pids planned.above) (at_home_level Leaf last.table planned.level leaves_home) (at_home_above last.table planned.above above_home) in
          let page = holds_among (IsAtHome last.table) n planned_pids every (only_planned n o h) in
          some_by o page.0 (sym h ∙ page.1)

      -- no page is checked out
      pub arrived-home : AreAllHome last
      arrived-home = each_listed (λ n o. IsSome o) last.table.places shrinking.rising all_home

      arrived_pages : by_pid (all_pages planned) ≡ home_pages last.table.places
      arrived_pages =
          by_pid-unique (home_pages last.table.places) planned
          (subst (λ (ns : List ℕ). AreRisingPids ns) (sym (home_keys last.table.places arrived-home)) shrinking.rising)
          (planned_are_levels s t cs fan proper).distinct
          (holds-home last.table arrived-home planned leaves_home above_home shrinking.rising only_planned)

      arrived_logged : start.table.logged ≡ t.logged → last.table.logged ≡ outdate_all (outdated_pids s t cs) t.logged
      arrived_logged e =
          let gone : List ℕ = shrunk_pids whole.tower.above in
          shrinking.logged
          ∙ ap (λ (ls : List (ℕ × Logged)). outdate_all gone ls) climbing.logged
          ∙ ap (λ (ls : List (ℕ × Logged)). outdate_all gone (outdate_all whole.outdated ls)) e
          ∙ outdate-joined gone whole.outdated t.logged
          ∙ outdate-same (gone ++ whole.outdated) (whole.outdated ++ gone) t.logged (λ n. among_turned n gone whole.outdated)

      -- the tree in memory represents the planned tree
      pub arrived-tree : start.table.logged ≡ t.logged → tree_of last ≡ planned_tree s t cs
      arrived-tree e = same_tree (tree_of last) (planned_tree s t cs) (sym arrived_pages) shrinking.root shrinking.height (arrived_logged e)
