-- The levels of a tree in memory after a climb, and after the root has shrunk.
use Rattle.std.specs.Prelude.{◌≡◌, ℕ, suc, ◌+◌, true, false, List, length, None}
use Rattle.std.specs.List.{AllByRecursion}
use Rattle.index_page.specs.Page.{Page, PageOfKind}
use Rattle.index_page.specs.Page.PageOfKind.{Index}
use Rattle.mapping.specs.Levels.{Placed, all_pids, top_pid}
use Rattle.mapping.specs.FreshPids.{is_among}
use Rattle.mapping.specs.Outdate.{outdate_all}
use Rattle.mapping.specs.Proper.{Stacked, Distinct, AreRisingPids}
use Rattle.mapping.specs.Table.{pids_in_use, place_of}
use Rattle.mapping.specs.TreeInMemory.{TreeInMemory}
use Rattle.split_plan.specs.UpdatedLevel.{placed_of}
use Rattle.climb_plan.specs.Changing.{AreHome}
use Rattle.climb_plan.specs.Climb.{Climbed, LevelPlan, kept_levels}
use Rattle.climb_plan.specs.Plan.{shrunk_pids}

-- a level and the levels above it after a successful climb: their pages are in the table, removed pages have no place, and everything else is
-- unchanged
pub record HasClimbed {V : Type 0} (of : Page V → PageOfKind) (before after : TreeInMemory) (l : LevelPlan V) (c : Climbed V) : Type 0 where
  pub level : AreHome of after.table c.tower.level
  pub above : AllByRecursion (AreHome Index after.table) c.tower.above
  pub gone : (pid : ℕ) → is_among pid (all_pids (placed_of l.updated) l.above) ≡ true → is_among pid (all_pids c.tower.level c.tower.above) ≡ false → place_of after.table pid ≡ None
  pub others : (pid : ℕ) → is_among pid (all_pids (placed_of l.updated) l.above) ≡ false → is_among pid (all_pids c.tower.level c.tower.above) ≡ false → place_of after.table pid ≡ place_of before.table pid
  pub rising : AreRisingPids (pids_in_use after.table)
  pub logged : after.table.logged ≡ outdate_all c.outdated before.table.logged
  pub root : after.root ≡ top_pid c.tower.level c.tower.above
  pub height : after.height + length l.above ≡ before.height + length c.tower.above

-- the levels of a tree in memory, above a level of leaves whose pages may be anywhere, before the root shrinks: each consists of the parents of the
-- one below, they are in the table, and they go up to the root
pub record CanShrink {V : Type 0} (t : TreeInMemory) (level : List (Placed V)) (ls : List (List (Placed ℕ))) : Type 0 where
  pub home : AllByRecursion (AreHome Index t.table) ls
  pub stacked : Stacked level ls
  pub distinct : Distinct (all_pids level ls)
  pub rising : AreRisingPids (pids_in_use t.table)
  pub root : t.root ≡ top_pid level ls
  pub height : t.height ≡ suc (length ls)

-- these levels, above a level of leaves, after those at the top with one page and one child were freed; everything else is unchanged
pub record HasShrunk {V : Type 0} (before after : TreeInMemory) (level : List (Placed V)) (ls : List (List (Placed ℕ))) : Type 0 where
  pub gone : (pid : ℕ) → is_among pid (shrunk_pids ls) ≡ true → place_of after.table pid ≡ None
  pub others : (pid : ℕ) → is_among pid (shrunk_pids ls) ≡ false → place_of after.table pid ≡ place_of before.table pid
  pub rising : AreRisingPids (pids_in_use after.table)
  pub logged : after.table.logged ≡ outdate_all (shrunk_pids ls) before.table.logged
  pub root : after.root ≡ top_pid level (kept_levels ls)
  pub height : after.height ≡ suc (length (kept_levels ls))
