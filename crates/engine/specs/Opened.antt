-- The result of opening a store on a disk.
use Rattle.std.specs.Prelude.{◌≡◌, ◌≢◌, ◌⊎◌, ℕ, Bool, IsTrue, true, false, Result, Ok, Err, MatchResult, IfOk, IfErr}
use Rattle.keys.specs.Bytes.{Bytes}
use Rattle.keys.specs.declared.fault.Fault.{Fault}
use Rattle.keys.specs.declared.fault.Fault.TheVariants.{BadCrew, Device}
use Rattle.flush_log.specs.Disk.{View, IsSynced, Kept, Leaves}
use Rattle.recovery.specs.Recovered.{IsLate, IsReadOf, store_recovered}
use Rattle.recovery.specs.declared.recovered.Recovered.{Recovered}
use Rattle.recovery.specs.StoreOfDisk.{store_of_disk}
use Rattle.engine.specs.State.{State, IsSound}

-- the disk in the store that was opened, or the disk that was returned
abbrev pub disk_left : {D : Type 0} → Result (State D) (Fault × D) → D
disk_left (Ok x) = x.disk
disk_left (Err e) = e.1

-- the store that these bytes encode; or exactly their fault, or out of memory or a failed disk call, for a disk on which `old` calls had failed
abbrev pub IsOpened : {D : Type 0} → (D → ℕ) → Bytes → ℕ → Result (State D) (Fault × D) → Type 0
IsOpened failed file old result = MatchResult result
    (λ x. store_of_disk file ≡ Ok (x.settings, x.store))
    (λ e. (store_of_disk file ≡ Err e.0) ⊎ IsLate old (failed e.1) e.0)

-- A disk was synced, and the store on it was opened, or was not. `able` says whether the crew is in range.
pub record IsOpenedOn {D : Type 0} (view : D → View) (failures : D → ℕ) (able : Bool) (disk : D) (result : Result (State D) (Fault × D)) : Type 0 where
  -- the crew is checked before the disk is called
  pub bad_crew : able ≡ false → result ≡ Err (BadCrew, disk)
  -- the store, or the fault, by the bytes that were read, whatever the disk does; on an honest disk these are its readable contents
  pub read : IsTrue able → (file : Bytes) × IsReadOf (view disk) file × IsOpened failures file (failures disk) result
  pub honest : IsTrue able → IsTrue (view disk).is_honest → IsOpened failures (view disk).seen (failures disk) result
  pub fine : IfOk result (λ opened. opened.has_failed ≡ false)
  -- the readable contents are unchanged; if a store is returned, the disk is synced; and a crash leaves what it might have left before
  pub seen : IsTrue (view disk).is_honest → (view (disk_left result)).seen ≡ (view disk).seen
  pub is_synced : IsTrue (view disk).is_honest → IfOk result (λ opened. IsSynced (view opened.disk))
  pub crash : IsTrue (view disk).is_honest → Leaves (view disk) (view (disk_left result)) (λ before c. c ≡ before)
  pub kept : Kept (view disk) (view (disk_left result))
  pub counted : IfOk result (λ opened. failures opened.disk ≡ failures disk)
  pub uncounted : IfErr result (λ e. e.0 ≢ Device → failures e.1 ≡ failures disk)
  pub sound : IfOk result (λ opened. IsSound view opened)

-- ---- a store that is opened again in place

-- the store of what was read of a disk, on this disk; or the fault and the disk
abbrev pub read_on : {D : Type 0} → Result Recovered Fault → D → Result (State D) (Fault × D)
read_on (Ok found) disk = Ok (record { settings = found.settings; store = store_recovered found; disk = disk; has_failed = false })
read_on (Err fault) disk = Err (fault, disk)

-- the store after a call that opened it in place; or the fault and the store's disk
abbrev pub left_in_place : {D : Type 0} → Result Unit Fault → State D → Result (State D) (Fault × D)
left_in_place (Ok done) now = Ok now
left_in_place (Err fault) now = Err (fault, now.disk)

-- A store was opened on its own disk; or it was not, and then only its disk and whether it has failed may have changed.
pub record IsReopened {D : Type 0} (view : D → View) (failures : D → ℕ) (old : State D) (result : Result Unit Fault) (now : State D) : Type 0 where
  pub opened : IsOpenedOn view failures true old.disk (left_in_place result now)
  pub refused : IfErr result (λ fault. (now.settings ≡ old.settings) × (now.store ≡ old.store))
  -- after a failed call of the disk the store has failed, and after any other fault only if it had failed before
  pub has_failed : IfErr result (λ fault. ((fault ≡ Device) × (now.has_failed ≡ true)) ⊎ ((fault ≢ Device) × (now.has_failed ≡ old.has_failed)))
