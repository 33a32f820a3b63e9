-- The invariant of the tree of every store.
use Rattle.std.specs.Prelude.{◌≡◌, ◌≤◌, None}
use Rattle.keys.specs.Limits.{first_bad_field}
use Rattle.keys.specs.declared.settings.Settings.{Settings}
use Rattle.mapping.specs.Levels.{levels_of}
use Rattle.mapping.specs.Tree.{Tree, most_levels}
use Rattle.mapping.specs.Proper.{AreLevels, AreLogsTrue, HoldsItsLevels, IsProper}
use Rattle.mapping.specs.TreeInMemory.{TreeInMemory, AreAllHome, tree_of}

-- the settings are valid, the tree is proper, its log states are true, and it has no more levels than a tree may have
pub record IsSoundTree (s : Settings) (t : Tree) : Type 0 where
  pub settings : first_bad_field s ≡ None
  pub proper : IsProper s t
  pub logs : AreLogsTrue t
  pub height : t.height ≤ most_levels

-- the same in memory, with no page checked out
pub record IsSoundInMemory (s : Settings) (t : TreeInMemory) : Type 0 where
  pub home : AreAllHome t
  pub sound : IsSoundTree s (tree_of t)

-- a tree in memory in which a key can be looked up: no page is checked out, and its pages are those of levels that tile the keys
pub record IsReadable (t : TreeInMemory) : Type 0 where
  pub home : AreAllHome t
  pub held : HoldsItsLevels (tree_of t)
  pub levels : AreLevels (levels_of (tree_of t))
