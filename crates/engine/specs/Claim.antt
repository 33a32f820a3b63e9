-- Definitions for the trait `OrderedStore`, which states what every store promises.
use Rattle.std.specs.Prelude.{◌≡◌, ◌≢◌, ◌⊎◌, Bool, true, Option, Some, None, Result, Ok, Err, MatchResult}
use Rattle.keys.specs.Bytes.{Bytes, Pairs}
use Rattle.keys.specs.declared.fault.Fault.{Fault}
use Rattle.keys.specs.declared.fault.Fault.TheVariants.{Device}
use Rattle.keys.specs.declared.settings.Settings.{Settings}

-- the settings of a store, and its pairs in the order of their keys
abbrev pub Held : Type 0
Held = Settings × Pairs Bytes

-- the disk of the store that was returned, or the disk that was returned with the fault
abbrev pub disk_in : {X D : Type 0} → (X → D) → Result X (Fault × D) → D
disk_in disk_of (Ok x) = disk_of x
disk_in disk_of (Err e) = e.1

-- from these bytes, `recovered` gives the first or the second
abbrev pub RecoversEither : (Bytes → Option Held) → Option Held → Option Held → Bytes → Type 0
RecoversEither recovered first second c = (recovered c ≡ first) ⊎ (recovered c ≡ second)

-- these bytes are unchanged, or encode no store, or the one that is being created
abbrev pub IsLeftByCreate : (Bytes → Option Held) → Bytes → Held → Bytes → Type 0
IsLeftByCreate recovered file new c = (c ≡ file) ⊎ (recovered c ≡ None) ⊎ (recovered c ≡ Some new)

-- the fault `Device` makes the store a failed one; after any other result it is failed if and only if it was before
abbrev pub FailsByDevice : {X : Type 0} → Result X Fault → Bool → Bool → Type 0
FailsByDevice result old new = MatchResult result (λ _. new ≡ old) (λ fault. (fault ≡ Device → new ≡ true) × (fault ≢ Device → new ≡ old))
