-- The faults of creating a store, and the effects of its creation.
use Rattle.std.specs.Prelude.{◌≡◌, ◌≢◌, ◌⊎◌, ℕ, nat_lt, IsTrue, false, if◌then◌else◌, [], length, Option, Some, None, Result, Ok, Err, MatchOption, MatchResult, IfOk, IfErr, IsErr}
use Rattle.std.specs.Option.{option_or}
use Rattle.keys.specs.Bytes.{Bytes}
use Rattle.keys.specs.Limits.{first_bad_field}
use Rattle.keys.specs.declared.fault.Fault.{Fault}
use Rattle.keys.specs.declared.fault.Fault.TheVariants.{BadSettings, Device, DiskTooSmall, NotAStore}
use Rattle.keys.specs.declared.settings.Field.{Field}
use Rattle.keys.specs.declared.settings.Settings.{Settings}
use Rattle.mapping.specs.Levels as levels
use Rattle.mapping.specs.Tree.{Store}
use Rattle.flush_log.specs.Disk.{View, IsSynced, Kept, LeavesOnly}
use Rattle.flush_log.specs.NewStore.{disk_of_new}
use Rattle.flush_log.specs.Segments.{disk_size}
pub use Rattle.recovery.specs.Recovered.{IsLate}
use Rattle.recovery.specs.StoreOfDisk.{first_store, store_of_disk}
use Rattle.engine.specs.State.{State, IsSound}

-- why no store is created on a disk of a given size: a field of the settings is out of range, or the disk has no room for all segments
abbrev pub field_fault : Option Field → Option Fault
field_fault None = None
field_fault (Some field) = Some (BadSettings field)

abbrev pub create_refusal : Settings → ℕ → Option Fault
create_refusal s size = option_or (field_fault (first_bad_field s)) (if nat_lt size (disk_size s) then Some DiskTooSmall else None)

-- the store and the bytes after a store was created on a disk with these bytes, or the fault
abbrev pub made_unless : Option Fault → Settings → Bytes → Result (Store × Bytes) Fault
made_unless None s disk = Ok (first_store, disk_of_new s disk)
made_unless (Some fault) s disk = Err fault

abbrev pub after_create : Settings → Bytes → Result (Store × Bytes) Fault
after_create s disk = made_unless (create_refusal s (length disk)) s disk

-- what a crash may leave of a disk while a store is created on it: the old bytes, no store, or the new one
abbrev pub IsLeftCreating : Settings → Bytes → Bytes → Type 0
IsLeftCreating s file c = (c ≡ file) ⊎ (store_of_disk c ≡ Err NotAStore) ⊎ (c ≡ disk_of_new s file)

-- A store was created on the disk `old`, or was not. The store's own disk, of type E, may hide the disk beneath it, on which the store lies: `beneath`
-- is that disk, and `shown` are the bytes that the store's disk shows for the bytes beneath. `Left` is what a crash may leave of the disk beneath.
pub record IsCreatedOn {D E : Type 0} (view : D → View) (failures : D → ℕ) (own_view : E → View) (beneath : E → D) (shown : Bytes → Bytes) (s : Settings) (old : D) (Left : Bytes → Type 0)
    (result : Result (State E) (Fault × D)) : Type 0 where
  -- which fault: that of the settings or of the size, or else that an allocation or a call of the disk failed
  pub refused : MatchOption (create_refusal s (view old).size) (IfErr result (λ e. IsLate (failures old) (failures e.1) e.0)) (λ fault. IsErr result × IfErr result (λ e. e.0 ≡ fault))
  pub back : IfErr result (λ e. Kept (view old) (view e.1) × (e.0 ≢ Device → e.1 ≡ old))
  -- the first store, which has no pairs
  pub made : IfOk result (λ made. (made.settings ≡ s) × (made.store ≡ first_store) × (made.has_failed ≡ false))
  pub contents : IfOk result (λ made. levels.contents made.store.tree ≡ [])
  pub kept : IfOk result (λ made. Kept (view old) (view (beneath made.disk)) × (failures (beneath made.disk) ≡ failures old))
  -- on an honest disk: the new bytes, synced
  pub bytes : IsTrue (view old).is_honest
      → IfOk result (λ made. (after_create s (view old).seen ≡ Ok (made.store, shown (view (beneath made.disk)).seen)) × IsSynced (view (beneath made.disk)))
  -- on a synced disk: what a crash at any moment leaves
  pub crash : IsSynced (view old) → MatchResult result (λ made. LeavesOnly (view old) (view (beneath made.disk)) Left) (λ e. LeavesOnly (view old) (view e.1) Left)
  pub sound : IfOk result (λ made. IsSound own_view made)
