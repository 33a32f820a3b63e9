-- The bytes that a reading of a disk finds, whatever the disk does, and the store that is recovered from them.
use Rattle.std.specs.Prelude.{◌≡◌, ◌⊎◌, ℕ, IsTrue, List, length, Result, Ok, OnOk}
use Rattle.keys.specs.Bytes.{Bytes}
use Rattle.keys.specs.declared.fault.Fault.{Fault}
use Rattle.keys.specs.declared.fault.Fault.TheVariants.{NoMemory, Device}
use Rattle.mapping.specs.Tree.{Store}
use Rattle.mapping.specs.TreeInMemory.{tree_of}
use Rattle.flush_log.specs.AfterFlush.{store_after}
use Rattle.flush_log.specs.Disk.{View, Kept, OnlyRead, CountsNoOther, HasFailed}
use Rattle.flush_log.specs.Reading.{Found, log}
use Rattle.flush_log.specs.SettingsBlock.{store_settings}
use Rattle.flush_log.specs.Slot.{store_slot}
use Rattle.recovery.specs.Gathered.{AreGathered}
use Rattle.recovery.specs.declared.gather.Wanted.TheVariants.{Every}
use Rattle.recovery.specs.declared.recovered.LogRead.{LogRead}
use Rattle.recovery.specs.declared.recovered.Recovered.{Recovered}

-- bytes that a reading of the disk may find: as many as it has, and on an honest disk its contents
pub record IsReadOf (v : View) (file : Bytes) : Type 0 where
  pub whole : length file ≡ v.size
  pub honest : IsTrue v.is_honest → file ≡ v.seen

-- a fault that the bytes of a disk do not determine: out of memory, or a failed disk call
abbrev pub IsLate : ℕ → ℕ → Fault → Type 0
IsLate old new fault = (fault ≡ NoMemory) ⊎ ((fault ≡ Device) × HasFailed old new)

-- A call that returned this result only read the disk. `failed` is the count of failed disk calls.
pub record OnlyReads {D X : Type 0} (view : D → View) (failed : D → ℕ) (old new : D) (result : Result X Fault) : Type 0 where
  -- whether the disk is honest, and its length, did not change
  pub kept : Kept (view old) (view new)
  -- on an honest disk, neither the bytes nor the outcomes of a crash changed
  pub same : OnlyRead (view old) (view new)
  -- after `Ok`, the count of failed disk calls is unchanged
  pub counted : OnOk result (failed new ≡ failed old)
  -- after a fault other than `Device`, the count is unchanged, too
  pub uncounted : CountsNoOther result (failed old) (failed new)

-- the recovered store: its tree, and the numbers of its slot
abbrev pub store_recovered : Recovered → Store
store_recovered r = store_after (tree_of r.tree) r.slot

-- what was read of these bytes: their settings, their slot, and the frames of their log, gathered by page
pub record IsLogRead (r : LogRead) (file : Bytes) : Type 0 where
  pub settings : store_settings file ≡ Ok r.format.settings
  pub slot : store_slot r.format.settings file ≡ Ok r.slot
  pub found : List Found
  pub log : log r.format.settings file r.slot ≡ Ok found
  pub gathered : AreGathered r.format Every r.gathering found
