-- The results of opening the store in a file by options.
use Rattle.std.specs.Prelude.{◌≡◌, ◌⊎◌, ⊤, [], Option, None, Result, Ok, Err, MatchResult}
use Rattle.keys.specs.Bytes.{Bytes}
use Rattle.keys.specs.Limits.{first_bad_field}
use Rattle.keys.specs.declared.fault.Fault.TheVariants.{NoMemory}
use Rattle.keys.specs.declared.settings.Field.{Field}
use Rattle.recovery.specs.StoreOfDisk.{store_of_disk}
use Rattle.engine.specs.FileStore.{IsFaultOfFile, IsNewStore, IsStoreOfFile}
use Rattle.engine.specs.State.{State}
use Rattle.engine.specs.declared.file_store.OpenFault.{OpenFault}
use Rattle.engine.specs.declared.file_store.OpenFault.TheVariants as open_fault
use Rattle.engine.specs.declared.options.Access.{Access}
use Rattle.engine.specs.declared.options.Access.TheVariants.{ReadOnly, Existing, Create}
use Rattle.engine.specs.declared.options.Creation.TheVariants.{IfMissing, New}
use Rattle.engine.specs.declared.options.OpenError.{OpenError}

-- the first field out of range of the settings for a store that may be created
abbrev pub bad_field : Access → Option Field
bad_field ReadOnly = None
bad_field Existing = None
bad_field (Create creation settings) = first_bad_field settings

-- the store that is opened, if the file has these bytes; a file that is created has none
abbrev pub IsOpenedBy : {D : Type 0} → Access → Bytes → State D → Type 0
IsOpenedBy ReadOnly file x = store_of_disk file ≡ Ok (x.settings, x.store)
IsOpenedBy Existing file x = store_of_disk file ≡ Ok (x.settings, x.store)
IsOpenedBy (Create IfMissing settings) file x = IsStoreOfFile settings file x
IsOpenedBy (Create New settings) file x = IsNewStore settings x

-- why an existing store is not opened from a file with these bytes: another lock, a failed call, out of memory, or their fault
abbrev pub IsFaultOfStore : Bytes → OpenFault → Type 0
IsFaultOfStore file open_fault.Locked = ⊤
IsFaultOfStore file (open_fault.File reason) = ⊤
IsFaultOfStore file (open_fault.Store fault) = (fault ≡ NoMemory) ⊎ (store_of_disk file ≡ Err fault)

-- why no store is opened, if the file has these bytes
abbrev pub IsRefusedBy : Access → Bytes → OpenFault → Type 0
IsRefusedBy ReadOnly file fault = IsFaultOfStore file fault
IsRefusedBy Existing file fault = IsFaultOfStore file fault
IsRefusedBy (Create IfMissing settings) file fault = IsFaultOfFile file fault
IsRefusedBy (Create New settings) file fault = IsFaultOfFile [] fault

-- the result is an error with exactly this fault
abbrev pub HasOpenFault : {X : Type 0} → Result X OpenError → OpenFault → Type 0
HasOpenFault result fault = MatchResult result (λ x. ⊥) (λ error. error.fault ≡ fault)
