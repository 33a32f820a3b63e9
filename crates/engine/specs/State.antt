-- The state of a store on a disk, and the invariant of every store.
use Rattle.std.specs.Prelude.{◌≡◌, ◌≤◌, ℕ, Bool, false, IsTrue, length}
use Rattle.keys.specs.declared.settings.Settings.{Settings}
use Rattle.keys.specs.declared.version.Version.{Version}
use Rattle.mapping.specs.Levels.{contents}
use Rattle.mapping.specs.Tree.{Store}
use Rattle.mapping.specs.TreeInMemory.{TreeInMemory, AreAllHome, tree_of}
use Rattle.flush_log.specs.Disk.{View}
use Rattle.flush_log.specs.Segments.{disk_size}
use Rattle.flush_log.specs.declared.slot.LogEnds.{LogEnds}
use Rattle.recovery.specs.InStep.{IsStore, IsInStep}

-- the settings, the store of the definitions, the disk, and whether a call of the disk has failed in a call that writes
pub record State (D : Type 0) : Type 0 where
  pub settings : Settings
  pub store : Store
  pub disk : D
  pub has_failed : Bool

-- settings, disk and whether a call of it failed are unchanged: only what the store holds in memory may have changed
abbrev pub IsOnlyInMemory : {D : Type 0} → State D → State D → Type 0
IsOnlyInMemory old new = (new.settings ≡ old.settings) × (new.disk ≡ old.disk) × (new.has_failed ≡ old.has_failed)

-- The invariant of every store, given the view of disks: it satisfies the invariant of stores, its disk has room for all segments, and on an honest
-- disk, as long as no call has failed, it is in step with the disk's readable contents.
pub record IsSound {D : Type 0} (view : D → View) (x : State D) : Type 0 where
  pub is : IsStore x.settings x.store
  pub room : disk_size x.settings ≤ (view x.disk).size
  pub step : x.has_failed ≡ false → IsTrue (view x.disk).is_honest → IsInStep x.settings x.store (view x.disk).seen

-- the store of a tree in memory and its log
abbrev pub store_in : TreeInMemory → LogEnds → Version → Store
store_in t log version = record { tree = tree_of t; head = log.head; tail = log.tail; sequence = log.sequence; version = version }

-- the state of a store, from all its parts in memory
abbrev pub state_of : {D : Type 0} → Settings → TreeInMemory → LogEnds → Version → D → Bool → State D
state_of s t log version disk has_failed = record { settings = s; store = store_in t log version; disk = disk; has_failed = has_failed }

-- a sound store in memory, with no page checked out, and the number of its pairs
pub record IsCountedStore {D : Type 0} (view : D → View) (s : Settings) (t : TreeInMemory) (log : LogEnds) (version : Version) (disk : D) (has_failed : Bool) (pairs : ℕ) : Type 0 where
  pub home : AreAllHome t
  pub sound : IsSound view (state_of s t log version disk has_failed)
  pub counted : pairs ≡ length (contents (tree_of t))
