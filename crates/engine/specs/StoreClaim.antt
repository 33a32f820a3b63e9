-- The trait `OrderedStore` for a store of pages: the pairs that its disk's bytes encode, and the effect of its calls on its state.
use Rattle.std.specs.Prelude.{ℕ, Option, Some, None, Result, Ok, Err}
use Rattle.keys.specs.Bytes.{Bytes}
use Rattle.keys.specs.declared.fault.Fault.{Fault}
use Rattle.keys.specs.declared.settings.Settings.{Settings}
use Rattle.mapping.specs.Levels.{contents}
use Rattle.mapping.specs.Tree.{Store}
use Rattle.flush_log.specs.AfterFlush.{after_flush, after_upgrade}
use Rattle.recovery.specs.StoreOfDisk.{store_of_disk}
use Rattle.cleaner.specs.AfterClean.{after_clean}
use Rattle.engine.specs.Claim.{Held}
use Rattle.engine.specs.Late.{after_create}

-- the settings and the pairs of the store that was read, if one was
abbrev pub held_in : Result (Settings × Store) Fault → Option Held
held_in (Ok p) = Some (p.0, contents p.1.tree)
held_in (Err fault) = None

-- the settings and the pairs of the store that these bytes encode, if they encode one
abbrev pub recovered_from : Bytes → Option Held
recovered_from file = held_in (store_of_disk file)

-- the value of the result, if it is no fault
abbrev pub if_ok : {X : Type 0} → Result X Fault → Option X
if_ok (Ok x) = Some x
if_ok (Err fault) = None

-- the first store, and the bytes after its creation
abbrev pub created_to : Settings → Bytes → Option (Store × Bytes)
created_to s file = if_ok (after_create s file)

-- the store that was read, if one was
abbrev pub store_read : Result (Settings × Store) Fault → Option Store
store_read (Ok p) = Some p.1
store_read (Err fault) = None

-- the store that these bytes encode, if they encode one
abbrev pub opened_to : Bytes → Option Store
opened_to file = store_read (store_of_disk file)

-- a number that the new store has, with the store and the bytes, if there is no fault
abbrev pub with_number : (Store → ℕ) → Result (Store × Bytes) Fault → Option (ℕ × Store × Bytes)
with_number number (Ok p) = Some (number p.0, p.0, p.1)
with_number number (Err fault) = None

-- the number of commits, the store and the bytes after a flush
abbrev pub flushed_to : Settings → Store → Bytes → Option (ℕ × Store × Bytes)
flushed_to s st file = with_number (λ now. now.sequence) (after_flush s st file)

-- the number of the first segment, the store and the bytes after a clean
abbrev pub cleaned_to : Settings → Store → Bytes → Option (ℕ × Store × Bytes)
cleaned_to s st file = with_number (λ now. now.head) (after_clean s st file)

-- the number of commits, the store and the bytes after an upgrade
abbrev pub upgraded_to : Settings → Store → Bytes → Option (ℕ × Store × Bytes)
upgraded_to s st file = with_number (λ now. now.sequence) (after_upgrade s st file)
