-- A crash during a flush or an upgrade leaves the old store or the new one.
use Rattle.std.specs.Prelude.{◌≡◌, ◌≢◌, ◌⊎◌, ℕ, zero, suc, List, [], ◌∷◌, take}
use Rattle.std.proofs.Common.{arith, ◌≤◌, length, refl, sym, ap, ◌∙◌, subst, inl, inr}
use Rattle.keys.specs.declared.settings.Settings.{Settings}
use Rattle.mapping.specs.Tree.{Tree, Store}
use Rattle.frame_codec.specs.declared.format.Format.{Format}
use Rattle.frame_codec.specs.Frame.{Frame}
use Rattle.flush_log.specs.AfterFlush.{flush_slot, store_after, after_text, after_flush, after_upgrade, of_version_two, text_calls, flush_calls, upgrade_calls}
use Rattle.flush_log.specs.Commit.{HasRoom, MayLeave, LeftDuring, commit_calls, committed, IsUncommitted}
use Rattle.flush_log.specs.FlushText.{version_with, commit_frames, flush_frames, upgrade_frames, format_with, HasFrames, flushed}
use Rattle.flush_log.specs.Layout.{spans, is_full_for_flush}
use Rattle.flush_log.specs.Slot.{Slot}
use Rattle.flush_log.specs.declared.text.CommitKind.{CommitKind}
use Rattle.flush_log.specs.declared.text.CommitKind.TheVariants.{Flush, Upgrade}
use Rattle.flush_log.proofs.OutcomeLemmas.{before-settings, before-slot, before-log, text-crash}
use Rattle.flush_log.proofs.UpgradeLemmas.{upgrade-some}
use Rattle.recovery.specs.InStep.{IsStoreOf}
use Rattle.recovery.specs.StoreOfDisk.{frames_in, tree_by_log, store_of_disk}
use Rattle.recovery.proofs.FlushBack.{left, commit-done, text-some, upgrade-done, slot_with, store_with, same_with, started, room_for}
use Rattle.recovery.proofs.StoreLemmas.{Reads, StandsBy, store-stands, stands-for}

-- ---- the commit of some frames

module _ (g : Format) (file c : List ℕ) (on_disk : Store) (by : StandsBy g.settings file on_disk) where
  -- a disk with the same settings, slot and log encodes the same store
  same-read : Reads g.settings c by.slot by.found → store_of_disk c ≡ store_of_disk file
  same-read reads = stands-for g.settings c by.slot by.found reads by.sound by.proper ∙ sym (stands-for g.settings file by.slot by.found by.reads by.sound by.proper)

  pub commit-crash : (text : List Frame) (u : Slot) → HasRoom g file by.slot text → u.sequence ≡ suc by.slot.sequence → LeftDuring (commit_calls g.settings file (spans g.settings by.slot.tail text) u) file c
      → (store_of_disk c ≡ store_of_disk file) ⊎ (c ≡ committed g.settings file (spans g.settings by.slot.tail text) u)
  commit-crash text u room next during =
      elim (text-crash g file by.slot text room u next c during) [
        | inl same ↦ inl (same-read (record { settings = same.0 ∙ by.reads.settings; slot = same.1; log = same.2 ∙ by.reads.log }))
        | inr whole ↦ inr whole
      ]

  -- until the commit is done the disk encodes the old store
  pub commit-hidden : (text : List Frame) → HasRoom g file by.slot text → IsUncommitted g.settings (suc by.slot.sequence) (spans g.settings by.slot.tail text) file c → store_of_disk c ≡ store_of_disk file
  commit-hidden text room hid =
      let long : 512 ≤ length file = let all = room.whole in omega arith in
      let rs = spans g.settings by.slot.tail text in
      same-read (record {
        settings = before-settings g.settings (suc by.slot.sequence) rs file c long hid ∙ by.reads.settings;
        slot = before-slot g.settings by.slot rs file c long room.slot hid;
        log = before-log g file by.slot text room c hid ∙ by.reads.log;
      })

-- ---- a flush or an upgrade

-- without a call nothing changes
pub none_left : (k : ℕ) (file c : List ℕ) → MayLeave (take k []) file (λ d. d ≡ file) c → c ≡ file
none_left zero file c h = h
none_left (suc k) file c h = h

module _ (s : Settings) (text : CommitKind) (file c : List ℕ) (tree : Tree) (on_disk : Store) (by : StandsBy s file on_disk) (within : HasFrames s text tree) where
  abbrev before : Store
  before = started text tree by.slot

  by_text : (frames : List Frame) → commit_frames text tree ≡ frames → (now : Store) (bytes : List ℕ) → after_text s before file (commit_frames text tree) ≡ left now bytes → LeftDuring (text_calls s before file frames) file c
      → (store_of_disk c ≡ store_of_disk file) ⊎ (c ≡ bytes)
  by_text [] e now bytes h during = inl (ap store_of_disk (none_left during.0 file c during.1))
  by_text (f ∷ fs) e now bytes h during =
      let some : commit_frames text tree ≢ [] = (λ none. (let x : f ∷ fs ≡ [] = sym e ∙ none in absurd (cc))) in
      let t : Slot = flush_slot s before (commit_frames text tree) in
      let done = commit-done t (is_full_for_flush s t.head t.tail) (store_after (flushed tree) t) now (committed s file (spans s by.slot.tail (commit_frames text tree)) t) bytes (sym (text-some s before file (commit_frames text tree) some) ∙ h) in
      let room = room_for s text tree by.slot within file by.found by.reads done.room in
      let calls : LeftDuring (commit_calls s file (spans s by.slot.tail (commit_frames text tree)) t) file c =
      subst (λ (frames : List Frame). LeftDuring (commit_calls s file (spans s by.slot.tail frames) (flush_slot s before frames)) file c) (sym e) during in
      elim (commit-crash (format_with s text) file c on_disk by (commit_frames text tree) t room refl calls) [
        | inl same ↦ inl same
        | inr whole ↦ inr (whole ∙ sym done.disk)
      ]

  by_hidden : commit_frames text tree ≢ [] → (now : Store) (bytes : List ℕ) → after_text s before file (commit_frames text tree) ≡ left now bytes
      → IsUncommitted s (suc by.slot.sequence) (spans s by.slot.tail (commit_frames text tree)) file c → store_of_disk c ≡ store_of_disk file
  by_hidden some now bytes h hid =
      let t : Slot = flush_slot s before (commit_frames text tree) in
      let done = commit-done t (is_full_for_flush s t.head t.tail) (store_after (flushed tree) t) now (committed s file (spans s by.slot.tail (commit_frames text tree)) t) bytes (sym (text-some s before file (commit_frames text tree) some) ∙ h) in
      commit-hidden (format_with s text) file c on_disk by (commit_frames text tree) (room_for s text tree by.slot within file by.found by.reads done.room) hid

module _ (s : Settings) (text : CommitKind) (st now : Store) (file bytes c : List ℕ) (is : IsStoreOf s st file) (within : HasFrames s text st.tree) (h : after_text s (store_with (version_with text) st) file (commit_frames text st.tree) ≡ left now bytes) where
  -- until its commit is done the disk encodes the old store
  text-hidden : commit_frames text st.tree ≢ [] → IsUncommitted s (suc st.sequence) (spans s st.tail (commit_frames text st.tree)) file c → store_of_disk c ≡ store_of_disk file
  text-hidden some hid =
      let (on_disk, read, step) = is.step in
      let by : StandsBy s file on_disk = store-stands s file on_disk read in
      let slot : Slot = by.slot in
      let same : store_after st.tree (slot_with (version_with text) slot) ≡ store_with (version_with text) st = same_with st on_disk (tree_by_log slot (frames_in by.found)) slot step by.store (version_with text) in
      by_hidden s text file c st.tree on_disk by within some now bytes
      (ap (λ (x : Store). after_text s x file (commit_frames text st.tree)) same ∙ h)
      (subst (λ (x : Store). IsUncommitted s (suc x.sequence) (spans s x.tail (commit_frames text st.tree)) file c) (sym same) hid)

  -- a crash at any moment of it leaves the store that the disk encoded, or all that was written
  text-crashed : LeftDuring (text_calls s (store_with (version_with text) st) file (commit_frames text st.tree)) file c → (store_of_disk c ≡ store_of_disk file) ⊎ (c ≡ bytes)
  text-crashed during =
      let (on_disk, read, step) = is.step in
      let by : StandsBy s file on_disk = store-stands s file on_disk read in
      let slot : Slot = by.slot in
      let same : store_after st.tree (slot_with (version_with text) slot) ≡ store_with (version_with text) st = same_with st on_disk (tree_by_log slot (frames_in by.found)) slot step by.store (version_with text) in
      by_text s text file c st.tree on_disk by within (commit_frames text st.tree) refl now bytes
      (ap (λ (x : Store). after_text s x file (commit_frames text st.tree)) same ∙ h)
      (subst (λ (x : Store). LeftDuring (text_calls s x file (commit_frames text st.tree)) file c) (sym same) during)

pub flush-hidden : (s : Settings) (st now : Store) (file bytes c : List ℕ) → IsStoreOf s st file → HasFrames s (Flush st.version) st.tree → flush_frames st.version st.tree ≢ [] → after_flush s st file ≡ left now bytes
    → IsUncommitted s (suc st.sequence) (spans s st.tail (flush_frames st.version st.tree)) file c → store_of_disk c ≡ store_of_disk file
flush-hidden s st now file bytes c is within some h hid = text-hidden s (Flush st.version) st now file bytes c is within h some hid

pub flush-crash : (s : Settings) (st now : Store) (file bytes c : List ℕ) → IsStoreOf s st file → HasFrames s (Flush st.version) st.tree → after_flush s st file ≡ left now bytes → LeftDuring (flush_calls s st file) file c
    → (store_of_disk c ≡ store_of_disk file) ⊎ (c ≡ bytes)
flush-crash s st now file bytes c is within h during = text-crashed s (Flush st.version) st now file bytes c is within h during

pub upgrade-hidden : (s : Settings) (st now : Store) (file bytes c : List ℕ) → IsStoreOf s st file → HasFrames s Upgrade st.tree → after_upgrade s st file ≡ left now bytes
    → IsUncommitted s (suc st.sequence) (spans s st.tail (upgrade_frames st.tree)) file c → store_of_disk c ≡ store_of_disk file
upgrade-hidden s st now file bytes c is within h hid =
    let done = upgrade-done st.version (after_text s (of_version_two st) file (upgrade_frames st.tree)) now bytes h in
    text-hidden s Upgrade st now file bytes c is within done (upgrade-some s st.tree is.is.proper) hid

pub upgrade-crash : (s : Settings) (st now : Store) (file bytes c : List ℕ) → IsStoreOf s st file → HasFrames s Upgrade st.tree → after_upgrade s st file ≡ left now bytes → LeftDuring (upgrade_calls s st file) file c
    → (store_of_disk c ≡ store_of_disk file) ⊎ (c ≡ bytes)
upgrade-crash s st now file bytes c is within h during =
    text-crashed s Upgrade st now file bytes c is within (upgrade-done st.version (after_text s (of_version_two st) file (upgrade_frames st.tree)) now bytes h) during
