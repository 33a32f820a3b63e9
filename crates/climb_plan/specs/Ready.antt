-- When a tree in memory is ready to climb: the leaves of a batch were checked out, and the batch was applied to them.
use Rattle.std.specs.Prelude.{◌≡◌, List}
use Rattle.std.specs.List.{AllByRecursion}
use Rattle.std.specs.Map.{keys_of}
use Rattle.keys.specs.declared.settings.Settings.{Settings}
use Rattle.keys.specs.declared.command.Command.{Command}
use Rattle.index_page.specs.Page.PageOfKind.{Leaf, Index}
use Rattle.mapping.specs.Tree.{Tree}
use Rattle.mapping.specs.Levels.{levels_of, contents}
use Rattle.mapping.specs.Proper.{AreLogsTrue, IsProper}
use Rattle.mapping.specs.Table.{pids_in_use}
use Rattle.mapping.specs.TreeInMemory.{TreeInMemory}
use Rattle.page_runs.specs.NetRun.{net_run}
use Rattle.split_plan.specs.UpdatedLevel.{updated_leaves}
use Rattle.climb_plan.specs.Changing.{SeenPage, AreSeen, AreHome}

-- some leaves of a proper tree are checked out, after the commands on their keys; all other pages are in the table as in the tree, and no other leaf
-- gets a run
pub record IsReady {A : Type 0} (s : Settings) (t : Tree) (cs : List (Command A)) (m : TreeInMemory) (xs : List SeenPage) : Type 0 where
  pub proper : IsProper s t
  pub logs : AreLogsTrue t
  pub leaves : AreSeen Leaf m.table xs (updated_leaves s (net_run (contents t) cs) (levels_of t).level)
  pub above : AllByRecursion (AreHome Index m.table) (levels_of t).above
  pub in_use : pids_in_use m.table ≡ keys_of t.pages
  pub logged : m.table.logged ≡ t.logged
  pub root : m.root ≡ t.root
  pub height : m.height ≡ t.height
