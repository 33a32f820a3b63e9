-- A sound store in memory, without the number of its pairs, and with it.
use Rattle.std.specs.Prelude.{◌≡◌, ℕ, Bool, length}
use Rattle.keys.specs.declared.settings.Settings.{Settings}
use Rattle.keys.specs.declared.version.Version.{Version}
use Rattle.mapping.specs.Levels.{contents}
use Rattle.mapping.specs.TreeInMemory.{TreeInMemory, AreAllHome, tree_of}
use Rattle.flush_log.specs.Disk.{View}
use Rattle.flush_log.specs.declared.slot.LogEnds.{LogEnds}
use Rattle.engine.specs.State.{IsCountedStore, IsSound, state_of}

-- a sound store in memory, with no page checked out
pub record IsSoundStore {D : Type 0} (view : D → View) (s : Settings) (t : TreeInMemory) (log : LogEnds) (version : Version) (disk : D) (has_failed : Bool) : Type 0 where
  pub home : AreAllHome t
  pub sound : IsSound view (state_of s t log version disk has_failed)

module _ {D : Type 0} {view : D → View} {s : Settings} {t : TreeInMemory} {log : LogEnds} {version : Version} {disk : D} {has_failed : Bool} where
  pub uncounted : {n : ℕ} → IsCountedStore view s t log version disk has_failed n → IsSoundStore view s t log version disk has_failed
  uncounted is = record { home = is.home; sound = is.sound }

  pub with_count : (n : ℕ) → IsSoundStore view s t log version disk has_failed → n ≡ length (contents (tree_of t)) → IsCountedStore view s t log version disk has_failed n
  with_count n is count = record { home = is.home; sound = is.sound; counted = count }
