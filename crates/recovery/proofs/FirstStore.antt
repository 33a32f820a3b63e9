-- The disk of a new store encodes the first store.
use Rattle.std.specs.Prelude.{◌≡◌, ℕ, List, [], ◌∷◌, None, Ok}
use Rattle.std.proofs.Common.{refl}
use Rattle.keys.specs.Limits.{first_bad_field}
use Rattle.keys.specs.declared.settings.Settings.{Settings}
use Rattle.mapping.specs.Proper.{IsProper}
use Rattle.mapping.specs.Tree.{first_tree}
use Rattle.mapping.proofs.FirstTree.{first_is_proper}
use Rattle.mapping.proofs.Walk.{nothing_found}
use Rattle.flush_log.specs.NewStore.{first_frame, first_slot, disk_of_new}
use Rattle.flush_log.specs.Segments.{HasSegments}
use Rattle.flush_log.proofs.NewStoreLemmas.{new_settings, new_slot, new_log}
use Rattle.recovery.specs.StoreOfDisk.{first_store, store_of_disk}
use Rattle.recovery.specs.InStep.{IsStoreOf}
use Rattle.recovery.proofs.ReadStore.{store-read}
use Rattle.recovery.proofs.StoreLemmas.{stands-for}

new-read : (s : Settings) (disk : List ℕ) → first_bad_field s ≡ None → HasSegments s disk → store_of_disk (disk_of_new s disk) ≡ Ok (s, first_store)
new-read s disk good room =
    let proper : IsProper s first_tree = first_is_proper s in
    stands-for s (disk_of_new s disk) first_slot (record { segment = 0; frame = first_frame } ∷ [])
    (record { settings = new_settings s disk good room; slot = new_slot s disk good room; log = new_log s disk good room })
    refl ((nothing_found s first_tree proper.tree).1 proper)

pub new-store : (s : Settings) (disk : List ℕ) → first_bad_field s ≡ None → HasSegments s disk → (store_of_disk (disk_of_new s disk) ≡ Ok (s, first_store)) × IsStoreOf s first_store (disk_of_new s disk)
new-store s disk good room = let read = new-read s disk good room in (read, store-read s first_store (disk_of_new s disk) read)
