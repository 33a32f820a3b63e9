-- A flush in parts: the store in memory, which is shared with readers, and what is to be written.
use Rattle.std.specs.Prelude.{◌≡◌, ◌≢◌, ℕ, Bool, [], length, Option, Some, None}
use Rattle.keys.specs.declared.settings.Settings.{Settings}
use Rattle.keys.specs.declared.version.Version.{Version}
use Rattle.mapping.specs.Levels.{contents}
use Rattle.mapping.specs.Tree.{Store}
use Rattle.mapping.specs.TreeInMemory.{TreeInMemory, AreAllHome, tree_of}
use Rattle.flush_log.specs.AfterFlush.{store_after}
use Rattle.flush_log.specs.CommitPlan.{CommitPlan}
use Rattle.flush_log.specs.Disk.{View}
use Rattle.flush_log.specs.FlushText.{flush_frames, flushed}
use Rattle.flush_log.specs.Slot.{Slot}
use Rattle.flush_log.specs.declared.slot.LogEnds.{LogEnds}
use Rattle.flush_log.specs.declared.text.CommitKind.TheVariants.{Flush}
use Rattle.recovery.specs.InStep.{IsStore}
use Rattle.engine.specs.Calls.{IsWriting}
use Rattle.engine.specs.State.{State, IsSound, store_in}

-- the settings and the store of the definitions, without the disk
pub record StateInMemory : Type 0 where
  pub settings : Settings
  pub store : Store

-- a sound store in memory, with no page checked out, and the number of its pairs
pub record IsCountedStoreInMemory (s : Settings) (t : TreeInMemory) (log : LogEnds) (version : Version) (pairs : ℕ) : Type 0 where
  pub home : AreAllHome t
  pub is : IsStore s (store_in t log version)
  pub counted : pairs ≡ length (contents (tree_of t))

-- this commit writes what the log of the store lacks; without a commit the log lacks nothing
abbrev pub IsCommitOf : Settings → Store → Option CommitPlan → Type 0
IsCommitOf s st None = flush_frames st.version st.tree ≡ []
IsCommitOf s st (Some m) = (flush_frames st.version st.tree ≢ []) × IsWriting (Flush st.version) s st m

-- the state of a store in memory on its disk
abbrev pub state_on : {D : Type 0} → StateInMemory → D → Bool → State D
state_on m disk has_failed = record { settings = m.settings; store = m.store; disk = disk; has_failed = has_failed }

-- a flush that has begun: its store is sound, and the commit is its own
pub record IsBegun {D : Type 0} (view : D → View) (x : State D) (planned : Option CommitPlan) : Type 0 where
  pub sound : IsSound view x
  pub commit : IsCommitOf x.settings x.store planned

-- the store after a commit with this slot was written; or the same store, if nothing was written
abbrev pub with_written : Option Slot → StateInMemory → StateInMemory
with_written None m = m
with_written (Some slot) m = record { settings = m.settings; store = store_after (flushed m.store.tree) slot }
