-- The store that the bytes of a disk encode, or their single fault. Whatever comes after a fault is not examined.
use Rattle.std.specs.Prelude.{List, map, Option, Some, None, Result, Ok, Err}
use Rattle.keys.specs.Bytes.{Bytes}
use Rattle.keys.specs.declared.settings.Settings.{Settings}
use Rattle.keys.specs.declared.fault.Fault.{Fault}
use Rattle.keys.specs.declared.fault.Fault.TheVariants.{BadStructure}
use Rattle.keys.specs.declared.version.Version.TheVariants.{One}
pub use Rattle.keys.specs.Results.{and_then}
use Rattle.mapping.specs.Finding.{Finding, finding, or_else}
use Rattle.mapping.specs.Tree.{Tree, Store, first_tree}
use Rattle.frame_codec.specs.Frame.{Frame}
use Rattle.flush_log.specs.FlushText.{tree_in_log}
use Rattle.flush_log.specs.NewStore.{first_tail}
use Rattle.flush_log.specs.Reading.{Found, log}
use Rattle.flush_log.specs.SettingsBlock.{store_settings}
use Rattle.flush_log.specs.Slot.{Slot, store_slot}
use Rattle.flush_log.specs.AfterFlush.{store_after}
use Rattle.recovery.specs.LogPages.{pages_of, broken_in}

-- this value, unless there is a finding
abbrev pub unless_found : {X : Type 0} → Option Finding → X → Result X Fault
unless_found None x = Ok x
unless_found (Some f) x = Err (BadStructure f)

-- frames without their places
abbrev pub frames_in : List Found → List Frame
frames_in found = map (λ f. f.frame) found

-- the pages of a log under the root and the height of a slot
abbrev pub tree_by_log : Slot → List Frame → Tree
tree_by_log t fs = tree_in_log (pages_of fs) t.root t.height

-- the first finding: first a page whose frames do not fit together, by the least pid, and then that of the walk from the root
abbrev pub wrong_in : Settings → Slot → List Frame → Option Finding
wrong_in s t fs = or_else (broken_in fs) (finding s (tree_by_log t fs))

-- the store of a slot of a disk
abbrev pub store_of_slot : Settings → Bytes → Slot → Result Store Fault
store_of_slot s file t = and_then (log s file t) (λ found. unless_found (wrong_in s t (frames_in found)) (store_after (tree_by_log t (frames_in found)) t))

-- the store of a disk with these settings
abbrev pub store_under : Settings → Bytes → Result (Settings × Store) Fault
store_under s file = and_then (store_slot s file) (λ t. and_then (store_of_slot s file t) (λ st. Ok (s, st)))

-- the settings and the store of a disk
abbrev pub store_of_disk : Bytes → Result (Settings × Store) Fault
store_of_disk file = and_then (store_settings file) (λ s. store_under s file)

-- the store of a new disk
abbrev pub first_store : Store
first_store = record { tree = first_tree; head = 0; tail = first_tail; sequence = 1; version = One }
