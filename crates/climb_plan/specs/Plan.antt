-- The effect of a batch on a store.
use Rattle.std.specs.Prelude.{ℕ, suc, List, ◌++◌, flat_map, drop, length}
use Rattle.std.specs.Map.{keys_of}
use Rattle.keys.specs.Bytes.{Bytes}
use Rattle.keys.specs.declared.settings.Settings.{Settings}
use Rattle.keys.specs.declared.command.Command.{Command}
use Rattle.mapping.specs.Tree.{Tree, Store, with_tree}
use Rattle.mapping.specs.Outdate.{outdate_all}
use Rattle.mapping.specs.Levels.{Placed, Levels, levels_of, contents, all_pages, by_pid, top_pid, pids}
use Rattle.page_runs.specs.NetRun.{net_run}
use Rattle.split_plan.specs.UpdatedLevel.{updated_leaves}
use Rattle.climb_plan.specs.Climb.{Climbed, climb, kept_levels}

-- the levels after the commands: each leaf gets its part of the net run, and the levels above get their terms
abbrev pub batch_climb : {A : Type 0} → Settings → Tree → List (Command A) → Climbed Bytes
batch_climb s t cs =
    let l : Levels = levels_of t in
    climb s (keys_of t.pages) 0 (updated_leaves s (net_run (contents t) cs) l.level) l.above

-- the levels that remain after the root has shrunk
abbrev pub shrunk_levels : Climbed Bytes → Levels
shrunk_levels c = record { level = c.tower.level; above = kept_levels c.tower.above }

abbrev pub planned_levels : {A : Type 0} → Settings → Tree → List (Command A) → Levels
planned_levels s t cs = shrunk_levels (batch_climb s t cs)

-- the pids of the levels that were removed with the old root
abbrev pub shrunk_pids : List (List (Placed ℕ)) → List ℕ
shrunk_pids ls = flat_map pids (drop (length (kept_levels ls)) ls)

-- the pids whose log states become outdated: of pages that were replaced, rewritten or freed, and of those removed with the old root
abbrev pub outdated_pids : {A : Type 0} → Settings → Tree → List (Command A) → List ℕ
outdated_pids s t cs =
    let c : Climbed Bytes = batch_climb s t cs in
    c.outdated ++ shrunk_pids c.tower.above

-- the tree after the commands
abbrev pub planned_tree : {A : Type 0} → Settings → Tree → List (Command A) → Tree
planned_tree s t cs =
    let l : Levels = planned_levels s t cs in
    record {
      pages = by_pid (all_pages l);
      root = top_pid l.level l.above;
      height = suc (length l.above);
      logged = outdate_all (outdated_pids s t cs) t.logged;
    }

-- the store after the commands
abbrev pub plan : {A : Type 0} → Settings → Store → List (Command A) → Store
plan s st cs = with_tree st (planned_tree s st.tree cs)
