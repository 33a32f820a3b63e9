-- The store that a disk encodes satisfies the invariant of stores.
use Rattle.std.specs.Prelude.{◌≡◌, ℕ, List, Result, Ok}
use Rattle.std.proofs.Common.{sym, ap, ◌∙◌, subst}
use Rattle.keys.specs.declared.fault.Fault.{Fault}
use Rattle.keys.specs.declared.settings.Settings.{Settings}
use Rattle.mapping.specs.Tree.{Store}
use Rattle.frame_codec.specs.Frame.{Frame}
use Rattle.flush_log.specs.AfterFlush.{store_after}
use Rattle.flush_log.specs.Slot.{Slot}
use Rattle.flush_log.proofs.SettingsLemmas.{store_settings-are}
use Rattle.flush_log.proofs.SlotLemmas.{store_slot-read, slot-stands}
use Rattle.recovery.specs.InStep.{IsStoreOf}
use Rattle.recovery.specs.LogPages.{pages_of}
use Rattle.recovery.specs.StoreOfDisk.{frames_in, tree_by_log, store_of_disk}
use Rattle.recovery.proofs.NothingDue.{proper-read, logs-in_log}
use Rattle.recovery.proofs.PagesLemmas.{rising-pages_of}
use Rattle.recovery.proofs.StepLemmas.{itself-in_step}
use Rattle.recovery.proofs.StoreLemmas.{StandsBy, store-stands}

pub store-read : (s : Settings) (on_disk : Store) (file : List ℕ) → store_of_disk file ≡ Ok (s, on_disk) → IsStoreOf s on_disk file
store-read s on_disk file is =
    let by : StandsBy s file on_disk = store-stands s file on_disk is in
    let slot : Slot = by.slot in
    let fs : List Frame = frames_in by.found in
    let (block, good, whole) = store_settings-are file s by.reads.settings in
    let read : Store = store_after (tree_by_log slot fs) slot in
    let here : store_of_disk file ≡ Ok (s, read) = is ∙ ap (λ (x : Store). answer x) by.store in
    subst (λ (x : Store). IsStoreOf s x file) (sym by.store) (record {
      is = record {
        good = good;
        proper = proper-read s on_disk file by;
        logs = logs-in_log (pages_of fs) slot.root slot.height (rising-pages_of fs);
        slot = (slot-stands s slot.sequence slot file (store_slot-read s file slot by.reads.slot)).good;
      };
      step = (read, here, itself-in_step (pages_of fs) slot.root slot.height slot);
    })
  where
    answer : Store → Result (Settings × Store) Fault
    answer x = Ok (s, x)
