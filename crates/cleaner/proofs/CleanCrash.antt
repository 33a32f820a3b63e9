-- A crash during a clean leaves a disk that encodes the same store as before, or everything that the clean writes.
use Rattle.std.specs.Prelude.{◌≡◌, ◌⊎◌, ℕ, suc, List, None, Result, Ok}
use Rattle.std.proofs.Common.{refl, sym, ap, ◌∙◌, subst, inl, inr}
use Rattle.keys.specs.declared.fault.Fault.{Fault}
use Rattle.keys.specs.declared.settings.Settings.{Settings}
use Rattle.mapping.specs.Finding.{finding}
use Rattle.mapping.specs.Tree.{Tree, Store}
use Rattle.frame_codec.specs.Frame.{Frame}
use Rattle.flush_log.specs.AfterFlush.{slot_of, store_after}
use Rattle.flush_log.specs.Commit.{LeftDuring, commit_calls, IsUncommitted}
use Rattle.flush_log.specs.Layout.{spans}
use Rattle.flush_log.specs.Reading.{Found, log}
use Rattle.flush_log.specs.Slot.{Slot, format_of}
use Rattle.recovery.specs.InStep.{IsInStep}
use Rattle.recovery.specs.StoreOfDisk.{frames_in, tree_by_log, store_of_disk}
use Rattle.recovery.proofs.CrashLemmas.{commit-crash, commit-hidden}
use Rattle.recovery.proofs.FlushBack.{left, same_store}
use Rattle.recovery.proofs.FoundWithin.{log-within}
use Rattle.recovery.proofs.StoreLemmas.{StandsBy, store-stands}
use Rattle.cleaner.specs.AfterClean.{after_clean, clean_calls_by, clean_calls}
use Rattle.cleaner.specs.CleanText.{clean_frames}
use Rattle.cleaner.proofs.CleanBack.{IsCleanOf, same_found, clean-of, next_of, room_for}

module _ (s : Settings) (file c : List ℕ) (tree : Tree) (on_disk : Store) (by : StandsBy s file on_disk) where
  by_slot : (now : Store) (bytes : List ℕ) → after_clean s (store_after tree by.slot) file ≡ left now bytes → LeftDuring (clean_calls s (store_after tree by.slot) file) file c
      → (store_of_disk c ≡ store_of_disk file) ⊎ (c ≡ bytes)
  by_slot now bytes h during =
      let slot : Slot = by.slot in
      let of : IsCleanOf s file tree on_disk by now bytes = clean-of s file tree on_disk by now bytes h in
      let done = of.done in
      let text : List Frame = clean_frames slot.head of.found in
      let proper = subst (λ (fs : List Found). finding s (tree_by_log slot (frames_in fs)) ≡ None) of.same by.proper in
      let room = room_for s file slot of.found of.reads of.more (log-within (format_of s slot) file slot.head slot.tail of.found of.reads.log) of.sound proper done.room in
      let calls : LeftDuring (commit_calls s file (spans s slot.tail text) (next_of slot s text)) file c =
      subst (λ (t : Slot). LeftDuring (commit_calls s file (spans s slot.tail text) t) file c) of.is_next (subst (λ (r : Result (List Found) Fault). LeftDuring (clean_calls_by s (store_after tree by.slot) file r) file c) of.reads.log during) in
      elim (commit-crash (format_of s slot) file c on_disk by text (next_of slot s text) room refl calls) [
        | inl kept ↦ inl kept
        | inr whole ↦ inr (whole ∙ sym done.disk)
      ]

  by_hidden : (now : Store) (bytes : List ℕ) (found : List Found) → after_clean s (store_after tree by.slot) file ≡ left now bytes → log s file by.slot ≡ Ok found
      → IsUncommitted s (suc by.slot.sequence) (spans s by.slot.tail (clean_frames by.slot.head found)) file c → store_of_disk c ≡ store_of_disk file
  by_hidden now bytes found h read hid =
      let slot : Slot = by.slot in
      let of : IsCleanOf s file tree on_disk by now bytes = clean-of s file tree on_disk by now bytes h in
      let done = of.done in
      let proper = subst (λ (fs : List Found). finding s (tree_by_log slot (frames_in fs)) ≡ None) of.same by.proper in
      let room = room_for s file slot of.found of.reads of.more (log-within (format_of s slot) file slot.head slot.tail of.found of.reads.log) of.sound proper done.room in
      let same : found ≡ of.found = sym (same_found s file tree on_disk by found read) ∙ of.same in
      commit-hidden (format_of s slot) file c on_disk by (clean_frames slot.head of.found) room
      (subst (λ (fs : List Found). IsUncommitted s (suc slot.sequence) (spans s slot.tail (clean_frames slot.head fs)) file c) same hid)

-- until a clean is done the disk encodes the old store
pub clean-hidden : (s : Settings) (st now : Store) (found : List Found) (file bytes c : List ℕ) → IsInStep s st file → after_clean s st file ≡ left now bytes → log s file (slot_of st) ≡ Ok found
    → IsUncommitted s (suc st.sequence) (spans s st.tail (clean_frames st.head found)) file c → store_of_disk c ≡ store_of_disk file
clean-hidden s st now found file bytes c (on_disk, is, are) h read hid =
    let by : StandsBy s file on_disk = store-stands s file on_disk is in
    let same : store_after st.tree by.slot ≡ st = same_store st on_disk (tree_by_log by.slot (frames_in by.found)) by.slot are by.store in
    by_hidden s file c st.tree on_disk by now bytes found
    (ap (λ (x : Store). after_clean s x file) same ∙ h)
    (ap (λ (x : Store). log s file (slot_of x)) same ∙ read)
    (subst (λ (x : Store). IsUncommitted s (suc x.sequence) (spans s x.tail (clean_frames x.head found)) file c) (sym same) hid)

-- a crash at any moment of a clean leaves the store that the disk encoded, or everything that the clean writes
pub clean-crash : (s : Settings) (st now : Store) (file bytes c : List ℕ) → IsInStep s st file → after_clean s st file ≡ left now bytes → LeftDuring (clean_calls s st file) file c
    → (store_of_disk c ≡ store_of_disk file) ⊎ (c ≡ bytes)
clean-crash s st now file bytes c (on_disk, is, are) h during =
    let by : StandsBy s file on_disk = store-stands s file on_disk is in
    let same : store_after st.tree by.slot ≡ st = same_store st on_disk (tree_by_log by.slot (frames_in by.found)) by.slot are by.store in
    by_slot s file c st.tree on_disk by now bytes
    (ap (λ (x : Store). after_clean s x file) same ∙ h)
    (subst (λ (x : Store). LeftDuring (clean_calls s x file) file c) (sym same) during)
