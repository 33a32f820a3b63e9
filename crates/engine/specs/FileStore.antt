-- The results of opening the store in a file.
use Rattle.std.specs.Prelude.{◌≡◌, ◌⊎◌, ⊤, ℕ, false, true, Result, Ok, Err, MatchResult, replicate}
use Rattle.keys.specs.Bytes.{Bytes}
use Rattle.keys.specs.declared.fault.Fault.{Fault}
use Rattle.keys.specs.declared.fault.Fault.TheVariants.{NoMemory}
use Rattle.keys.specs.declared.settings.Settings.{Settings}
use Rattle.flush_log.specs.NewStore.{disk_of_new}
use Rattle.flush_log.specs.Segments.{disk_size}
use Rattle.recovery.specs.Recovered.{IsLate}
use Rattle.recovery.specs.StoreOfDisk.{first_store, store_of_disk}
use Rattle.engine.specs.Hidden.{is_unfinished}
use Rattle.engine.specs.State.{State}
use Rattle.engine.specs.declared.file_store.Found.{Found}
use Rattle.engine.specs.declared.file_store.Found.TheVariants as found
use Rattle.engine.specs.declared.file_store.OpenFault.{OpenFault}
use Rattle.engine.specs.declared.file_store.OpenFault.TheVariants as open_fault

-- the disk, with the store that was found on it or without one
abbrev pub disk_found : {D : Type 0} → Found D → D
disk_found (found.Store x) = x.disk
disk_found (found.Nothing disk) = disk

-- if a store was found on the disk, this holds for it
abbrev pub IfStoreFound : {D : Type 0} → (State D → Type 0) → Found D → Type 0
IfStoreFound P (found.Store x) = P x
IfStoreFound P (found.Nothing disk) = ⊤

-- what was found on a disk with these bytes: their store, or that they are those of an unfinished one
abbrev pub IsFoundIn : {D : Type 0} → Bytes → Found D → Type 0
IsFoundIn file (found.Store x) = store_of_disk file ≡ Ok (x.settings, x.store)
IsFoundIn file (found.Nothing disk) = is_unfinished file ≡ true

-- these bytes, which are not those of an unfinished store, have this fault
abbrev pub IsFaultIn : Bytes → Fault → Type 0
IsFaultIn file fault = (is_unfinished file ≡ false) × (store_of_disk file ≡ Err fault)

-- what was found: the store of these bytes, or that they are those of an unfinished one; or exactly their fault, or out of memory or a failed disk
-- call, for a disk on which `old` calls had failed
abbrev pub IsFound : {D : Type 0} → (D → ℕ) → Bytes → ℕ → Result (Found D) (Fault × D) → Type 0
IsFound failed file old result = MatchResult result (IsFoundIn file) (λ e. IsFaultIn file e.0 ⊎ IsLate old (failed e.1) e.0)

-- a new store under these settings
abbrev pub IsNewStore : {D : Type 0} → Settings → State D → Type 0
IsNewStore settings x = (x.settings ≡ settings) × (x.store ≡ first_store)

-- the store of a file with these bytes: a new one if they are those of an unfinished one, and else the one that they encode
abbrev pub IsStoreOfFile : {D : Type 0} → Settings → Bytes → State D → Type 0
IsStoreOfFile settings file x =
    ((is_unfinished file ≡ true) × IsNewStore settings x) ⊎ ((is_unfinished file ≡ false) × (store_of_disk file ≡ Ok (x.settings, x.store)))

-- the bytes of a disk of zeros, of the length that the store needs, after a store was created on it
abbrev pub made_on_zeros : Settings → Bytes
made_on_zeros settings = disk_of_new settings (replicate (disk_size settings) 0)

-- why no store was opened from a file with these bytes: another lock, a failed call, out of memory, or their fault
abbrev pub IsFaultOfFile : Bytes → OpenFault → Type 0
IsFaultOfFile file open_fault.Locked = ⊤
IsFaultOfFile file (open_fault.File reason) = ⊤
IsFaultOfFile file (open_fault.Store fault) = (fault ≡ NoMemory) ⊎ IsFaultIn file fault
